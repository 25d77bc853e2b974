-- Where arrows lead to no higher number, and from the first places to lower ones, no path leads from one of those back to it.
use Rattle.std.proofs.Common.{◌≡◌, ℕ, ◌<◌, ◌≤◌, ⊎_elim, true, false, List, [], ◌∷◌, length, Contains, All, arith, get_or}
use Rattle.std.proofs.lemmas.Bool.{cases_Bool}
use Rattle.std.proofs.lemmas.List.Elements.{All-contains}
use Rattle.pisdf_model.specs.Arrows.{to_of, Leads, leads}
use Rattle.pisdf_model.proofs.Closure.{closure, inside_of_arrow}

-- from the first `count` places arrows lead to no higher number, and from the first `front` of them to lower ones
pub record Falls (arrows : List (List ℕ)) (numbers : List ℕ) (count front : ℕ) : Type 0 where
  pub level : (v : ℕ) → v < count → All (λ w. get_or numbers w 0 ≤ get_or numbers v 0) (to_of arrows v)
  pub lower : (v : ℕ) → v < front → All (λ w. get_or numbers w 0 < get_or numbers v 0) (to_of arrows v)

module _ (arrows : List (List ℕ)) (numbers : List ℕ) (count front : ℕ) (falls : Falls arrows numbers count front) (whole : length arrows ≤ count) where
  over_arrow : (v w : ℕ) → Contains (to_of arrows v) w → get_or numbers w 0 ≤ get_or numbers v 0
  over_arrow v w arrow =
      let inside = inside_of_arrow arrows v w arrow in
      All-contains (λ u. get_or numbers u 0 ≤ get_or numbers v 0) (to_of arrows v) w (falls.level v (omega arith)) arrow

  over_path : (v : ℕ) (between : List ℕ) (w : ℕ) → Leads arrows v between w → get_or numbers w 0 ≤ get_or numbers v 0
  over_path v [] w path = over_arrow v w path
  over_path v (u ∷ between) w path =
      let first = over_arrow v u path.0 in
      let rest = over_path u between w path.1 in
      omega arith

  below : (v : ℕ) → v < front → (w : ℕ) → Contains (to_of arrows v) w → get_or numbers w 0 < get_or numbers v 0
  below v before w arrow = All-contains (λ u. get_or numbers u 0 < get_or numbers v 0) (to_of arrows v) w (falls.lower v before) arrow

  no_round : (v : ℕ) → v < front → (between : List ℕ) → Leads arrows v between v → ⊥
  no_round v before [] path = let less = below v before v path in omega arith
  no_round v before (u ∷ between) path =
      let less = below v before u path.0 in
      let rest = over_path u between v path.1 in
      omega arith

  pub no_cycle_before : (v : ℕ) → v < front → leads arrows v v ≡ false
  no_cycle_before v before = ⊎_elim
      (λ (some : leads arrows v v ≡ true). let path = (closure arrows v v).0 some in absurd (no_round v before path.0 path.1))
      (λ (none : leads arrows v v ≡ false). none)
      (cases_Bool (leads arrows v v))
