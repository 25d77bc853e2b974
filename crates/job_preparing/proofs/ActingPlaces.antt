-- The actors of a level, where they stand among all actors.
use Rattle.std.proofs.Common.{◌≡◌, ◌+◌, ◌<◌, ◌≤◌, ◌++◌, ℕ, ℤ, List, [], ◌∷◌, length, map, take, take_all, get_or, slice_get, Some, sym, ap, ◌∙◌, subst, arith}
use Rattle.std.specs.Prelude.{slice_index}
use Rattle.std.proofs.lemmas.List.{map_more}
use Rattle.std.proofs.lemmas.Option.{get_or_from_slice_get, slice_get-get_or, slice_get_within}
use Rattle.pisdf_model.specs.declared.actor.Actor.{Actor}
use Rattle.pisdf_model.specs.declared.graph.Graph.{Graph}
use Rattle.param_resolver.specs.LevelOf.{AreOfActor, AreOneEach}
use Rattle.param_resolver.specs.Numbering.{acting, acting_places}
use Rattle.pisdf_meaning.specs.Held.{TellHoldsTo, TellHoldsToAll}
use Rattle.pisdf_meaning.specs.Sound.{no_actor}

abbrev pub EachPlaced : Type 0
EachPlaced = (graphs : List Graph) (g : Graph) (values : List ℤ) (b : ℕ) (actor : Actor) → slice_get (acting g) b ≡ Some actor → AreOfActor graphs g values b actor

abbrev pub OneEach : Type 0
OneEach = (graphs : List Graph) (g : Graph) (values : List ℤ) → AreOneEach graphs g values

module _ (each : EachPlaced) (many : OneEach) (g : Graph) (places : List ℕ) (n : ℕ) (are : places ≡ acting_places g) (inside : n < length (acting g)) where
  abbrev actor : Actor
  actor = get_or (acting g) n no_actor

  found : slice_get (acting g) n ≡ Some actor
  found = slice_get-get_or (acting g) n no_actor inside

  placed : slice_get g.actors (slice_index places n) ≡ Some actor
  placed = ap (λ (l : List ℕ). slice_get g.actors (slice_index l n)) are ∙ (each [] g [] n actor found).place

  pub place_inside : n < length places
  place_inside = let m = ap length are ∙ (many [] g []).places in omega arith

  pub actor_inside : (actors : List Actor) → actors ≡ g.actors → slice_index places n < length actors
  actor_inside actors same = subst (λ (l : List Actor). slice_index places n < length l) (sym same) (slice_get_within g.actors (slice_index places n) actor placed)

  pub actor_there : (actors : List Actor) (x : Actor) → actors ≡ g.actors → x ≡ get_or actors (slice_index places n) x → slice_get (acting g) n ≡ Some x
  actor_there actors x same is =
      let there : slice_get actors (slice_index places n) ≡ Some actor = ap (λ (l : List Actor). slice_get l (slice_index places n)) same ∙ placed in
      found ∙ ap Some (sym (is ∙ get_or_from_slice_get actors (slice_index places n) actor x there))

-- ---- what a list has of each actor of the level

pub level_inside : OneEach → (g : Graph) (places : List ℕ) (n : ℕ) → places ≡ acting_places g → n < length places → n < length (acting g)
level_inside many g places n are inside = let m = ap length are ∙ (many [] g []).places in omega arith

pub one_more : {X : Type 0} (f : Actor → X) (all : List Actor) (n : ℕ) (x : Actor) (out out' : List X) → slice_get all n ≡ Some x → out ≡ map f (take n all) → out' ≡ out ++ f x ∷ [] → out' ≡ map f (take (n + 1) all)
one_more f all n x out out' is were now =
    now
    ∙ ap (λ l. l ++ f x ∷ []) were
    ∙ ap (λ y. map f (take n all) ++ f y ∷ []) (sym (get_or_from_slice_get all n x x is))
    ∙ sym (map_more f all n x (slice_get_within all n x is))

pub all_more : {X : Type 0} (f : Actor → X) (many : OneEach) (g : Graph) (places : List ℕ) (n : ℕ) (out : List X) → places ≡ acting_places g → length places ≤ n → out ≡ map f (take n (acting g)) → out ≡ map f (acting g)
all_more f many g places n out are past were =
    were ∙ ap (map f) (let m = ap length are ∙ (many [] g []).places in take_all n (acting g) (omega arith))

pub told_here : (each : EachPlaced) (g : Graph) (n : ℕ) (x : Actor) → slice_get (acting g) n ≡ Some x → (graphs : List Graph) (holds told : List ℕ) (actors : List Actor) → actors ≡ g.actors → told ≡ holds → TellHoldsToAll graphs holds actors → TellHoldsTo graphs told x.body
told_here each g n x is graphs holds told actors same are all =
    let j : ℕ = slice_index (acting_places g) n in
    let there : slice_get actors j ≡ Some x = ap (λ (l : List Actor). slice_get l j) same ∙ (each [] g [] n x is).place in
    subst (λ (h : List ℕ). TellHoldsTo graphs h x.body) (sym are)
    (subst (λ (y : Actor). TellHoldsTo graphs holds y.body) (get_or_from_slice_get actors j x x there) (all j x (slice_get_within actors j x there)))
