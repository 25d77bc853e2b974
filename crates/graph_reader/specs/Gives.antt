-- What a function of the reader returns, against the walk.
use Rattle.std.specs.Prelude.{◌≡◌, ℕ, List, ◌++◌, Option, Result, Ok, Err}
use Rattle.std.specs.declared.alloc.AllocError.{AllocError}
use Rattle.graph_format.specs.declared.fifo.FileEnd.{FileEnd}
use Rattle.graph_format.specs.Walk.{◌>>=◌}
use Rattle.pisdf_model.specs.declared.detail_fault.DetailFault.{DetailFault}
use Rattle.pisdf_model.specs.declared.detail_fault.DetailFault.TheVariants.{Fault, Memory}

abbrev pub Fails : {A : Type 0} → DetailFault (List ℕ) → Result A (List ℕ) → Type 0
Fails Memory walked = Unit {0}
Fails (Fault text) walked = walked ≡ Err text

-- What was returned is what the walk gives, unless memory ran out.
abbrev pub Gives : {A : Type 0} → Result A (DetailFault (List ℕ)) → Result A (List ℕ) → Type 0
Gives (Ok x) walked = walked ≡ Ok x
Gives (Err fault) walked = Fails fault walked

-- the items read before, and then these
abbrev pub with_front : {A : Type 0} → List A → Result (List A) (List ℕ) → Result (List A) (List ℕ)
with_front front walked = walked >>= λ xs. Ok (front ++ xs)

-- the end that a text states, unless memory ran out
abbrev pub EndGives : Result (Option FileEnd) AllocError → Option FileEnd → Type 0
EndGives (Ok read) end = read ≡ end
EndGives (Err refused) end = Unit {0}
