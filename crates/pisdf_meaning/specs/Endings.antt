-- One firing of a graph: what it is given, and how it can end.
use Rattle.std.specs.Prelude.{◌≡◌, ℕ, List, ◌++◌, codes, Result, Ok, Err}
use Rattle.std.specs.Fmt.{decimal}
use Rattle.pisdf_meaning.specs.declared.firing.Firing.{Firing}
use Rattle.pisdf_meaning.specs.declared.firing.Given.{Given}
use Rattle.pisdf_meaning.specs.declared.refusal.PlainFault.{PlainFault}
use Rattle.pisdf_meaning.specs.declared.refusal.PlainFault.TheVariants.{Refused, Memory}
use Rattle.pisdf_meaning.specs.declared.refusal.Refusal.{Refusal}

-- how a firing of a graph ends: with what it gives, or refused
abbrev pub End : Type 0
End = Result Given Refusal

-- which firings of graphs end how
abbrev pub Ends : Type 1
Ends = Firing → End → Type 0

-- the path of a firing of an actor's graph: that of the job, `/`, the actor's name, `:` and the number of the firing
abbrev pub child_path : List ℕ → List ℕ → ℕ → List ℕ
child_path path actor k = path ++ (codes "/" ++ (actor ++ (codes ":" ++ decimal k)))

-- how a firing goes on after a step: with what the step gives as this says, refused to its end
abbrev pub Then : {S T : Type 0} → (S → Result T Refusal → Type 0) → Result S Refusal → Result T Refusal → Type 0
Then next (Ok given) end = next given end
Then next (Err refusal) end = end ≡ Err refusal

-- ---- what is answered

-- this holds of the refusal, if it is one
abbrev pub IfRefused : (Refusal → Type 0) → PlainFault → Type 0
IfRefused P (Refused refusal) = P refusal
IfRefused P Memory = Unit {0}

-- this holds of what is answered, unless there was no memory
abbrev pub Answers : {T : Type 0} → (Result T Refusal → Type 0) → Result T PlainFault → Type 0
Answers P (Ok given) = P (Ok given)
Answers P (Err fault) = IfRefused (λ refusal. P (Err refusal)) fault
