-- Names that are lent.
use Rattle.std.specs.Prelude.{ℕ, List, map, Option}
use Rattle.std.specs.Borrow.{Bor}
use Rattle.std.specs.BTreeMap.{BTreeMap, get_by}
use Rattle.std.specs.Cmp.Lexicographic.{slice_cmp}
use Rattle.std.specs.Ordering.{nat_cmp}

abbrev pub lent : List (Bor (List ℕ)) → List (List ℕ)
lent names = map (λ (name : Bor (List ℕ)). name.now) names

-- what a map has for a name
abbrev pub place_in : BTreeMap (Bor (List ℕ)) ℕ → List ℕ → Option ℕ
place_in places text = get_by (λ (k : Bor (List ℕ)). slice_cmp nat_cmp text k.now) places
