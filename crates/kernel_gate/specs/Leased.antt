-- The leases of a frame's ports.
use Rattle.std.specs.Prelude.{◌≡◌, ℤ, List, [], ◌∷◌, map}
use Rattle.split_block.specs.View.{LeaseView, LeasePlace, lease_place, cells_of, IsWholePlace}
use Rattle.kernel_gate.specs.Value.{Places}

-- the leases have these cells, and lie at these places
pub record AreLeases (tokens : List (List ℤ)) (where_they_lie : List LeasePlace) (leases : List LeaseView) : Type 0 where
  pub cells : tokens ≡ map cells_of leases
  pub places : where_they_lie ≡ map lease_place leases

-- each is a whole block, which is no pool's
abbrev pub AllWhole : List LeasePlace → Type 0
AllWhole [] = Unit {0}
AllWhole (p ∷ ps) = IsWholePlace p × AllWhole ps

-- each port is a whole block, which is no pool's
abbrev pub AreWhole : Places → Type 0
AreWhole p = AllWhole p.inputs × AllWhole p.outputs
