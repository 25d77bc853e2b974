-- Paths over graphs: in valid graphs no graph holds itself; and a graph below is below among the other graphs too.
use Rattle.std.proofs.Common.{◌≡◌, ℕ, zero, suc, ◌+◌, ◌<◌, ◌≤◌, List, [], ◌∷◌, length, map, slice_get, Option, Some, refl, ap, ◌∙◌, sym, subst, arith, get_or, Contains, unwrap_or, option_map}
use Rattle.std.proofs.lemmas.Option.{slice_get-map, slice_get_within, unwrap_or-slice_get}
use Rattle.pisdf_model.specs.Arrows.{Leads, to_of}
use Rattle.pisdf_model.specs.Nesting.{children, greatest, nesting_to}
use Rattle.pisdf_model.specs.Valid.{AreValid}
use Rattle.pisdf_model.specs.declared.graph.Graph.{Graph}
use Rattle.pisdf_model.specs.declared.graph.Graphs.{Graphs}
use Rattle.param_resolver.proofs.Sound.{nested}
use Rattle.firing_laws.specs.Moving.{DifferAt, IsBelow}
use Rattle.firing_laws.proofs.Belows.{NameWithin, child_below, children_at, name_within}

-- ---- nesting

greatest_has : (f : ℕ → ℕ) (xs : List ℕ) (i k : ℕ) → i < length xs → f (get_or xs i k) ≤ greatest (map f xs)
greatest_has f [] i k inside = absurd (omega arith)
greatest_has f (x ∷ xs) zero k inside = omega arith
greatest_has f (x ∷ xs) (suc i) k inside = let rest = greatest_has f xs i k (omega arith) in omega arith

module _ (arrows : List (List ℕ)) where
  level_step : (n v : ℕ) → nesting_to arrows (suc n) v ≡ 1 + greatest (map (nesting_to arrows n) (to_of arrows v))
  unfolding nesting_to
  level_step n v = refl

  -- an arrow leads to a graph in which fewer are nested
  less_nested : (n v w : ℕ) → Contains (to_of arrows v) w → nesting_to arrows (suc (suc n)) v ≤ suc n → nesting_to arrows (suc n) w ≤ n
  less_nested n v w has nested =
      let most = greatest_has (nesting_to arrows (suc n)) (to_of arrows v) has.0 w has.1 in
      let step = level_step (suc n) v in
      let here : nesting_to arrows (suc n) (get_or (to_of arrows v) has.0 w) ≡ nesting_to arrows (suc n) w = ap (nesting_to arrows (suc n)) has.2 in
      omega arith

  some_nested : (v : ℕ) → nesting_to arrows 1 v ≤ 0 → ⊥
  some_nested v nested = let step = level_step 0 v in omega arith

  -- so does a path
  walked : (n v : ℕ) (between : List ℕ) (w : ℕ) → Leads arrows v between w → nesting_to arrows (suc n) v ≤ n → (m : ℕ) × (m < n) × (nesting_to arrows (suc m) w ≤ m)
  walked zero v between w path nested = absurd (some_nested v nested)
  walked (suc n) v [] w path nested = (n, omega arith, less_nested n v w path nested)
  walked (suc n) v (u ∷ between) w path nested =
      let rest = walked n u between w path.1 (less_nested n v u path.0 nested) in
      let less : rest.0 < n = rest.1 in
      (rest.0, omega arith, rest.2)

  no_cycle : (most n v : ℕ) (between : List ℕ) → n ≤ most → Leads arrows v between v → nesting_to arrows (suc n) v ≤ n → ⊥
  no_cycle zero n v between few path nested = let w = walked n v between v path nested in let less : w.0 < n = w.1 in omega arith
  no_cycle (suc most) n v between few path nested =
      let w = walked n v between v path nested in
      let less : w.0 < n = w.1 in
      no_cycle most w.0 v between (omega arith) path w.2

pub graphs_below : (graphs : Graphs) (top : ℕ) (g : Graph) → AreValid graphs → slice_get graphs.graphs top ≡ Some g → NameWithin (IsBelow graphs.graphs top) g.actors
graphs_below graphs top g valid is =
    let arrows = map children graphs.graphs in
    let deep : nesting_to arrows 9 top ≤ 8 = nested graphs valid.in_range valid.well_formed top (slice_get_within graphs.graphs top g is) in
    let here = children_at graphs.graphs top g is in
    name_within (IsBelow graphs.graphs top) g.actors
    (λ k has.
    let arrow : Contains (to_of arrows top) k = subst (λ (list : List ℕ). Contains list k) (sym here) has in
    record {
      apart = λ same. no_cycle arrows 8 8 top [] (omega arith) (subst (λ (j : ℕ). Contains (to_of arrows top) j) same arrow) deep;
      without = λ path. no_cycle arrows 8 8 top (k ∷ path.0) (omega arith) (arrow, path.1) deep;
    })

-- ---- the other graphs

module _ (top : ℕ) (one other : List Graph) (differ : DifferAt top one other) where
  arrows_same : (place : ℕ) → IsBelow one top place → to_of (map children other) place ≡ to_of (map children one) place
  arrows_same place below =
      sym (unwrap_or-slice_get (map children other) place [])
      ∙ ap (λ (o : Option (List ℕ)). unwrap_or o []) (slice_get-map children other place ∙ ap (λ (o : Option Graph). option_map children o) (differ place below.apart) ∙ sym (slice_get-map children one place))
      ∙ unwrap_or-slice_get (map children one) place []

  no_path : (between : List ℕ) (place : ℕ) → IsBelow one top place → Leads (map children other) place between top → ⊥
  no_path [] place below path = below.without ([], subst (λ (list : List ℕ). Contains list top) (arrows_same place below) path)
  no_path (u ∷ between) place below path =
      no_path between u (child_below one top place u below (subst (λ (list : List ℕ). Contains list u) (arrows_same place below) path.0)) path.1

  pub below_there : (place : ℕ) → IsBelow one top place → IsBelow other top place
  below_there place below = record { apart = below.apart; without = λ path. no_path path.0 place below path.1 }
