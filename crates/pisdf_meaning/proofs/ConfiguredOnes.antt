-- Lists with something for each configuration actor of a graph: what stands in them at its number.
use Rattle.std.proofs.Common.{◌≡◌, ℕ, zero, suc, ◌+◌, ◌<◌, ⊎_elim, true, false, List, [], ◌∷◌, length, take, refl, sym, ap, ◌∙◌, arith, get_or, if◌then◌else◌, length-append, get_or-append-add}
use Rattle.std.specs.List.{flat_map}
use Rattle.std.proofs.lemmas.Bool.{cases_Bool}
use Rattle.std.proofs.lemmas.List.{get_or_append_left}
use Rattle.pisdf_model.specs.InterfaceWires.{is_configuration}
use Rattle.pisdf_model.specs.declared.actor.Actor.{Actor}
use Rattle.pisdf_model.specs.declared.actor.Body.{Body}
use Rattle.pisdf_model.specs.declared.graph.Graph.{Graph}
use Rattle.pisdf_meaning.specs.Configuring.{configurations, configurations_from}
use Rattle.pisdf_meaning.specs.Sound.{IsConfiguration, actor_at, no_actor}

module _ {X Y : Type 0} (f : X → List Y) where
  -- what the element at a place gives, behind what those before it give
  part_start : (xs : List X) (k : ℕ) (e : X) (d : Y) → k < length xs → 0 < length (f (get_or xs k e)) → get_or (flat_map f xs) (length (flat_map f (take k xs))) d ≡ get_or (f (get_or xs k e)) 0 d
  part_start [] k e d inside some = absurd (omega arith)
  part_start (x ∷ xs) zero e d inside some = get_or_append_left (f x) (flat_map f xs) d 0 some
  part_start (x ∷ xs) (suc k) e d inside some =
      let long = length-append (f x) (flat_map f (take k xs)) in
      rw long (get_or-append-add (f x) (flat_map f xs) (length (flat_map f (take k xs))) d ∙ part_start xs k e d (omega arith) some)

  part_inside : (xs : List X) (k : ℕ) (e : X) → k < length xs → 0 < length (f (get_or xs k e)) → length (flat_map f (take k xs)) < length (flat_map f xs)
  part_inside [] k e inside some = absurd (omega arith)
  part_inside (x ∷ xs) zero e inside some = let long = length-append (f x) (flat_map f xs) in omega arith
  part_inside (x ∷ xs) (suc k) e inside some =
      let rest = part_inside xs k e (omega arith) some in
      omega (arith, length-append (f x) (flat_map f xs), length-append (f x) (flat_map f (take k xs)))

-- one for each configuration actor
abbrev pub GivesOne : {Y : Type 0} → (Body → List Y) → Type 0
GivesOne f = (body : Body) → length (f body) ≡ (if is_configuration body then 1 else 0)

module _ {Y : Type 0} (f : Body → List Y) (one : GivesOne f) where
  each_one : (c a : ℕ) (actors : List Actor) → length (flat_map (λ (x : Actor). f x.body) actors) ≡ length (configurations_from c a actors)
  each_one c a [] = refl
  each_one c a (x ∷ actors) = ⊎_elim
      (λ (is : is_configuration x.body ≡ true).
      let here : length (f x.body) ≡ 1 = one x.body ∙ rw is refl in
      let rest = each_one (c + 1) (a + 1) actors in
      rw is (omega (arith, length-append (f x.body) (flat_map (λ (y : Actor). f y.body) actors))))
      (λ (is : is_configuration x.body ≡ false).
      let here : length (f x.body) ≡ 0 = one x.body ∙ rw is refl in
      let rest = each_one c (a + 1) actors in
      rw is (omega (arith, length-append (f x.body) (flat_map (λ (y : Actor). f y.body) actors))))
      (cases_Bool (is_configuration x.body))

  pub one_each : (g : Graph) → length (flat_map (λ (x : Actor). f x.body) g.actors) ≡ length (configurations g)
  one_each g = each_one 0 0 g.actors

  module _ (g : Graph) (number a : ℕ) (at : IsConfiguration g number a) where
    number_is : number ≡ length (flat_map (λ (x : Actor). f x.body) (take a g.actors))
    number_is = at.number_is ∙ sym (each_one 0 0 (take a g.actors))

    some : 0 < length (f (actor_at g a).body)
    some = let here : length (f (actor_at g a).body) ≡ 1 = one (actor_at g a).body ∙ rw at.is refl in omega arith

    pub stands_at : (d : Y) → get_or (flat_map (λ (x : Actor). f x.body) g.actors) number d ≡ get_or (f (actor_at g a).body) 0 d
    stands_at d = ap (λ n. get_or (flat_map (λ (x : Actor). f x.body) g.actors) n d) number_is ∙ part_start (λ (x : Actor). f x.body) g.actors a no_actor d at.inside some

    pub stands_inside : number < length (flat_map (λ (x : Actor). f x.body) g.actors)
    stands_inside = let inside = part_inside (λ (x : Actor). f x.body) g.actors a no_actor at.inside some in let n = number_is in omega arith
