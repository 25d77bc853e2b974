-- The early check of a graph, over more levels than are nested in each other from it on, comes to the same.
use Rattle.std.proofs.Common.{◌≡◌, ℕ, zero, suc, ◌+◌, ◌-◌, ◌<◌, ◌≤◌, ℤ, List, [], ◌∷◌, ◌++◌, length, All, Some, refl, sym, ap, ◌∙◌, subst, arith, get_or}
use Rattle.std.specs.List.{flat_map, slice_get}
use Rattle.std.proofs.lemmas.List.{get_or_default}
use Rattle.std.proofs.lemmas.List.Elements.{All-head, All-tail}
use Rattle.std.proofs.lemmas.Option.{slice_get-get_or}
use Rattle.pisdf_model.specs.Details.{from_number}
use Rattle.pisdf_model.specs.Nesting.{children_of}
use Rattle.pisdf_model.specs.declared.actor.Actor.{Actor}
use Rattle.pisdf_model.specs.declared.actor.Body.{Body}
use Rattle.pisdf_model.specs.declared.actor.Body.TheVariants.{Kernel, Config, Child, ConfigChild}
use Rattle.pisdf_model.specs.declared.graph.Graph.{Graph}
use Rattle.param_resolver.specs.EarlyCheck.{Checked, check_by, check_to, config_children, config_faults, config_outs, early_numbers}
use Rattle.param_resolver.specs.Rates.{interface_rates}
use Rattle.param_resolver.specs.Resolvable.{AreResolvable, IsBodyResolvable, IsNestedWithin}
use Rattle.param_resolver.proofs.NestedGraphs.{children_nested, some_levels}

flat_same : {X Y : Type 0} (f g : X → List Y) (xs : List X) → All (λ x. f x ≡ g x) xs → flat_map f xs ≡ flat_map g xs
flat_same f g [] same = refl
flat_same f g (x ∷ xs) same = rw (All-head (λ y. f y ≡ g y) x xs same, flat_same f g xs (All-tail (λ y. f y ≡ g y) x xs same)) refl

each_same : {X Y : Type 0} (n : ℕ) (f g : ℕ → X → List Y) (xs : List X) → All (λ x. (k : ℕ) → f k x ≡ g k x) xs → from_number n f xs ≡ from_number n g xs
each_same n f g [] same = refl
each_same n f g (x ∷ xs) same =
    let here = All-head (λ y. (k : ℕ) → f k y ≡ g k y) x xs same n in
    let rest = each_same (n + 1) f g xs (All-tail (λ y. (k : ℕ) → f k y ≡ g k y) x xs same) in
    ap (λ ys. ys ++ from_number (n + 1) f xs) here ∙ ap (λ ys. g n x ++ ys) rest

module _ (first second : ℕ → List ℤ → Checked) where
  -- the two checks come to the same for the graphs that an actor names
  abbrev Alike : Body → Type 0
  Alike body = All (λ k. (inherited : List ℤ) → first k inherited ≡ second k inherited) (children_of body)

  same_outs : (values : List ℤ) (body : Body) → Alike body → config_outs first values body ≡ config_outs second values body
  same_outs values (Kernel kernel args ins outs) alike = refl
  same_outs values (Config kernel args ins outs sets) alike = refl
  same_outs values (Child k args) alike = refl
  same_outs values (ConfigChild k args sets) alike = rw (alike 0 k (omega arith) _) refl

  same_children : (values : List ℤ) (body : Body) → Alike body → config_children first values body ≡ config_children second values body
  same_children values (Kernel kernel args ins outs) alike = refl
  same_children values (Config kernel args ins outs sets) alike = refl
  same_children values (Child k args) alike = refl
  same_children values (ConfigChild k args sets) alike = rw (alike 0 k (omega arith) _) refl

  same_faults : (graphs : List Graph) (g : Graph) (values : List ℤ) (rates : List ℕ) (a : ℕ) (actor : List ℕ) (body : Body) → Alike body → config_faults first graphs g values rates a actor body ≡ config_faults second graphs g values rates a actor body
  same_faults graphs g values rates a actor (Kernel kernel args ins outs) alike = refl
  same_faults graphs g values rates a actor (Config kernel args ins outs sets) alike = refl
  same_faults graphs g values rates a actor (Child k args) alike = refl
  same_faults graphs g values rates a actor (ConfigChild k args sets) alike = rw (alike 0 k (omega arith) _) refl

  same_check : (graphs : List Graph) (g : Graph) (inherited : List ℤ) → ((i : ℕ) (a : Actor) → i < length g.actors → Alike (get_or g.actors i a).body) → check_by first graphs (Some g) inherited ≡ check_by second graphs (Some g) inherited
  same_check graphs g inherited alike =
      let values = early_numbers g inherited in
      let rates = interface_rates values g.inputs in
      let outs = flat_same (λ (a : Actor). config_outs first values a.body) (λ (a : Actor). config_outs second values a.body) g.actors (λ i a there. same_outs values (get_or g.actors i a).body (alike i a there)) in
      let children = flat_same (λ (a : Actor). config_children first values a.body) (λ (a : Actor). config_children second values a.body) g.actors (λ i a there. same_children values (get_or g.actors i a).body (alike i a there)) in
      let faults = each_same 0 (λ n (a : Actor). config_faults first graphs g values rates n a.name a.body) (λ n (a : Actor). config_faults second graphs g values rates n a.name a.body) g.actors
      (λ i a there n. same_faults graphs g values rates n (get_or g.actors i a).name (get_or g.actors i a).body (alike i a there)) in
      rw (outs, children, faults) refl

child_inside : (graphs params : ℕ) (body : Body) → IsBodyResolvable graphs params body → (j k : ℕ) → j < length (children_of body) → get_or (children_of body) j k < graphs
child_inside graphs params (Kernel kernel args ins outs) sound j k there = absurd (omega arith)
child_inside graphs params (Config kernel args ins outs sets) sound j k there = absurd (omega arith)
child_inside graphs params (Child child args) sound zero k there = sound.0
child_inside graphs params (Child child args) sound (suc j) k there = absurd (omega arith)
child_inside graphs params (ConfigChild child args sets) sound zero k there = sound.0
child_inside graphs params (ConfigChild child args sets) sound (suc j) k there = absurd (omega arith)

module _ (graphs : List Graph) (resolvable : AreResolvable graphs) (d : Graph) where
  pub stable : (n m place : ℕ) → n ≤ m → place < length graphs → IsNestedWithin graphs n place → (inherited : List ℤ) → check_to m graphs place inherited ≡ check_to n graphs place inherited
  unfolding check_to
  stable zero m place few inside nested inherited = let some = some_levels graphs 0 place nested in absurd (omega arith)
  stable (suc n) zero place few inside nested inherited = absurd (omega arith)
  stable (suc n) (suc m) place few inside nested inherited =
      let g = get_or graphs place d in
      let is = get_or_default graphs place d g inside in
      let less : suc n - 1 ≡ n = omega arith in
      let below = children_nested graphs (suc n) place g inside is nested in
      let alike : (i : ℕ) (a : Actor) → i < length g.actors → Alike (check_to m graphs) (check_to n graphs) (get_or g.actors i a).body
      = λ i a there j k at.
      let child = get_or (children_of (get_or g.actors i a).body) j k in
      stable n m child (omega arith) (child_inside (length graphs) (length g.params) (get_or g.actors i a).body ((resolvable place d inside).actors i a there) j k at)
      (subst (λ l. IsNestedWithin graphs l child) less (below i a there j k at)) in
      ap (λ o. check_by (check_to m graphs) graphs o inherited) (slice_get-get_or graphs place d inside)
      ∙ same_check (check_to m graphs) (check_to n graphs) graphs g inherited alike
      ∙ ap (λ o. check_by (check_to n graphs) graphs o inherited) (sym (slice_get-get_or graphs place d inside))

  -- the check over 8 levels is the check by the same
  pub unfolds : (place : ℕ) → place < length graphs → IsNestedWithin graphs 8 place → (inherited : List ℤ) → check_to 8 graphs place inherited ≡ check_by (check_to 8 graphs) graphs (slice_get graphs place) inherited
  unfolding check_to
  unfolds place inside nested inherited = sym (stable 8 9 place (omega arith) inside nested inherited)

pub some_graph : (graphs : List Graph) (place : ℕ) → place < length graphs → Graph
some_graph [] place inside = absurd (omega arith)
some_graph (g ∷ graphs) place inside = g
