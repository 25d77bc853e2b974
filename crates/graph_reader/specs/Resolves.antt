-- What resolving the names of a part answers.
use Rattle.std.specs.Prelude.{◌≡◌, ℕ, List, [], Result, Ok, Err}
use Rattle.pisdf_model.specs.Details.{Refuses}
use Rattle.pisdf_model.specs.declared.detail_fault.DetailFault.{DetailFault}

-- What the part is with places for names, where none of its references name nothing, and else the first that does, unless memory ran out.
abbrev pub Resolves : {A : Type 0} → List (List ℕ) → A → Result A (DetailFault (List ℕ)) → Type 0
Resolves unknown placed (Ok x) = (unknown ≡ []) × (x ≡ placed)
Resolves unknown placed (Err fault) = Refuses unknown fault
