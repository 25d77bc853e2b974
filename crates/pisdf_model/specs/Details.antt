-- Lists of details: the list of all details at which a fault stands, and the first of them.
use Rattle.std.specs.Prelude.{◌≡◌, ℕ, ◌+◌, Bool, List, [], ◌∷◌, ◌++◌, Option, Some, None, Result, Ok, Err, if◌then◌else◌}
use Rattle.pisdf_model.specs.declared.detail_fault.DetailFault.{DetailFault}
use Rattle.pisdf_model.specs.declared.detail_fault.DetailFault.TheVariants.{Fault, Memory}

abbrev pub first : {D : Type 0} → List D → Option D
first [] = None
first (d ∷ ds) = Some d

-- what each part gives, one after the other, the first of them having this number
abbrev pub from_number : {X D : Type 0} → ℕ → (ℕ → X → List D) → List X → List D
from_number n f [] = []
from_number n f (x ∷ xs) = f n x ++ from_number (n + 1) f xs

-- what each part gives, with its number
abbrev pub of_each : {X D : Type 0} → (ℕ → X → List D) → List X → List D
of_each f xs = from_number 0 f xs

-- one detail, unless the test holds
abbrev pub unless : {D : Type 0} → Bool → D → List D
unless test d = if test then [] else d ∷ []

-- the fault stands first at this detail
abbrev pub Refuses : {D : Type 0} → List D → DetailFault D → Type 0
Refuses details (Fault d) = first details ≡ Some d
Refuses details Memory = Unit {0}

-- what is answered where the fault stands at these details, unless memory runs out
abbrev pub Answers : {D U : Type 0} → List D → Result U (DetailFault D) → Type 0
Answers details (Ok done) = details ≡ []
Answers details (Err fault) = Refuses details fault
