-- Graphs nested in each other to a limit.
use Rattle.std.proofs.Common.{◌≡◌, ℕ, zero, suc, ◌+◌, ◌-◌, ◌<◌, ◌≤◌, List, [], ◌∷◌, ◌++◌, length, map, All, refl, sym, ap, ◌∙◌, subst, arith, get_or}
use Rattle.std.specs.List.{flat_map}
use Rattle.std.proofs.lemmas.List.{get_or-append-add, get_or-map, get_or_append_left, length-append}
use Rattle.std.proofs.lemmas.List.Elements.{All-cons, All-nil}
use Rattle.pisdf_model.specs.Arrows.{to_of}
use Rattle.pisdf_model.specs.Nesting.{children, children_of, greatest, nesting_to}
use Rattle.pisdf_model.specs.declared.actor.Actor.{Actor}
use Rattle.pisdf_model.specs.declared.graph.Graph.{Graph}
use Rattle.param_resolver.specs.Resolvable.{AreNestedWithin, IsNestedWithin}

module _ {X : Type 0} (P : X → Type 0) where
  pub all_left : (xs ys : List X) → All P (xs ++ ys) → All P xs
  all_left xs ys all k d inside =
      let there : k < length (xs ++ ys) = rw length-append (omega arith) in
      subst P (get_or_append_left xs ys d k inside) (all k d there)

  pub all_right : (xs ys : List X) → All P (xs ++ ys) → All P ys
  all_right xs ys all k d inside =
      let there : length xs + k < length (xs ++ ys) = rw length-append (omega arith) in
      subst P (get_or-append-add xs ys k d) (all (length xs + k) d there)

  pub all_flat : {Y : Type 0} (f : Y → List X) (ys : List Y) → All P (flat_map f ys) → All (λ y. All P (f y)) ys
  all_flat f [] all = All-nil (λ y. All P (f y))
  all_flat f (y ∷ ys) all = All-cons (λ z. All P (f z)) y ys (all_left (f y) (flat_map f ys) all) (all_flat f ys (all_right (f y) (flat_map f ys) all))

greatest_has : (f : ℕ → ℕ) (xs : List ℕ) (i k : ℕ) → i < length xs → f (get_or xs i k) ≤ greatest (map f xs)
greatest_has f [] i k inside = absurd (omega arith)
greatest_has f (x ∷ xs) zero k inside = omega arith
greatest_has f (x ∷ xs) (suc i) k inside = let rest = greatest_has f xs i k (omega arith) in omega arith

-- one level more
level_step : (holds : List (List ℕ)) (m place : ℕ) → nesting_to holds (m + 1) place ≡ 1 + greatest (map (nesting_to holds m) (to_of holds place))
unfolding nesting_to
level_step holds m place = let e : m + 1 ≡ suc m = omega arith in rw e refl

pub some_levels : (graphs : List Graph) (n place : ℕ) → IsNestedWithin graphs n place → 0 < n
some_levels graphs zero place nested = let step = level_step (map children graphs) 0 place in absurd (omega arith)
some_levels graphs (suc n) place nested = omega arith

module _ (graphs : List Graph) (n place : ℕ) (g : Graph) (inside : place < length graphs) (is : g ≡ get_or graphs place g) (nested : IsNestedWithin graphs n place) where
  arrows : to_of (map children graphs) place ≡ children g
  arrows = get_or-map children graphs place g [] inside ∙ ap children (sym is)

  below : (i k : ℕ) → i < length (children g) → nesting_to (map children graphs) (n - 1 + 1) (get_or (children g) i k) ≤ n - 1
  below i k there =
      let most = greatest_has (nesting_to (map children graphs) n) (children g) i k there in
      let step = level_step (map children graphs) n place ∙ ap (λ ks. 1 + greatest (map (nesting_to (map children graphs) n) ks)) arrows in
      let some = some_levels graphs n place nested in
      let level : n - 1 + 1 ≡ n = omega arith in
      rw level (omega arith)

  pub children_nested : All (λ (a : Actor). AreNestedWithin graphs (n - 1) a.body) g.actors
  children_nested = all_flat (λ k. IsNestedWithin graphs (n - 1) k) (λ (a : Actor). children_of a.body) g.actors below
