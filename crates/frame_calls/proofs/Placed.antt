-- Where leases lie.
use Rattle.std.proofs.Common.{◌≡◌, ◌∷◌, List, [], length, map, ap, sym, ◌∙◌}
use Rattle.std.proofs.lemmas.List.{length-map}
use Rattle.split_block.specs.View.{LeaseView, LeasePlace, lease_place}

-- one lease lies where another does
pub only_place : (xs : List LeaseView) (l : LeaseView) → map lease_place xs ≡ lease_place l ∷ [] → length xs ≡ 1
only_place xs l e = sym (length-map xs lease_place) ∙ ap (λ (ps : List LeasePlace). length ps) e
