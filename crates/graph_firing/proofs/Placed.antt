-- The places of configuration actors, one actor after the other.
use Rattle.std.proofs.Common.{◌≡◌, ⊎_elim, ℕ, suc, ◌+◌, ◌<◌, true, false, List, [], ◌∷◌, length, map, get_or, drop, refl, sym, ap, ◌∙◌, subst, arith, drop-cons}
use Rattle.std.proofs.lemmas.Bool.{cases_Bool}
use Rattle.std.proofs.lemmas.List.{length-map}
use Rattle.std.proofs.lemmas.Option.{get_or_from_slice_get}
use Rattle.job_rules.specs.Items.{graph_of, no_graph}
use Rattle.job_rules.specs.Meant.{IsFit}
use Rattle.pisdf_meaning.specs.declared.firing.Firing.{Firing}
use Rattle.pisdf_meaning.specs.Configuring.{Configuration, configurations, configurations_from}
use Rattle.pisdf_model.specs.InterfaceWires.{is_configuration}
use Rattle.pisdf_model.specs.declared.actor.Actor.{Actor}
use Rattle.pisdf_model.specs.declared.graph.Graph.{Graph}
use Rattle.graph_firing.specs.Places.{config_places, places_from}

places_are : (n a : ℕ) (actors : List Actor) → map (λ (c : Configuration). c.place) (configurations_from n a actors) ≡ places_from a actors
places_are n a [] = refl
places_are n a (x ∷ actors) = ⊎_elim
    (λ (config : is_configuration x.body ≡ true). rw config (ap (λ l. a ∷ l) (places_are (n + 1) (a + 1) actors)))
    (λ (acts : is_configuration x.body ≡ false). rw acts (places_are n (a + 1) actors))
    (cases_Bool (is_configuration x.body))

pub config_places_are : (g : Graph) → places_from 0 g.actors ≡ config_places g
config_places_are g = sym (places_are 0 0 g.actors)

pub many_places : (g : Graph) → length (places_from 0 g.actors) ≡ length (configurations g)
many_places g = ap length (config_places_are g) ∙ length-map (configurations g) (λ (c : Configuration). c.place)

-- the actor at a place, and those after it
module _ (actors : List Actor) (p : ℕ) (inside : p < length actors) (x : Actor) (is : get_or actors p x ≡ x) where
  rest_is : drop p actors ≡ x ∷ drop (p + 1) actors
  rest_is =
      let e : p + 1 ≡ suc p = omega arith in
      drop-cons actors p x inside ∙ ap (λ y. y ∷ drop (suc p) actors) is ∙ ap (λ k. x ∷ drop k actors) (sym e)

  pub of_configuration : is_configuration x.body ≡ true → places_from p (drop p actors) ≡ p ∷ places_from (p + 1) (drop (p + 1) actors)
  of_configuration config = ap (places_from p) rest_is ∙ rw config refl

  pub of_other : is_configuration x.body ≡ false → places_from p (drop p actors) ≡ places_from (p + 1) (drop (p + 1) actors)
  of_other acts = ap (places_from p) rest_is ∙ rw acts refl

-- the graph that is fired, found among the graphs
pub graph_found : (graphs : List Graph) (firing : Firing) → IsFit graphs firing → (items : List Graph) (n : ℕ) (x : Graph) → items ≡ graphs → n ≡ firing.graph → x ≡ get_or items n x → x ≡ graph_of graphs firing
graph_found graphs firing fit items n x all at is =
    is ∙ ap (λ (l : List Graph). get_or l n x) all ∙ ap (λ m. get_or graphs m x) at
    ∙ get_or_from_slice_get graphs firing.graph fit.g x fit.here ∙ sym (get_or_from_slice_get graphs firing.graph fit.g no_graph fit.here)

-- an item that is a configuration actor has a place
pub has_place : (g : Graph) (item k : ℕ) (actors : List Actor) → actors ≡ g.actors → k ≡ length (configurations g) → item < k → item < length (places_from 0 actors)
has_place g item k actors same count below =
    let many = many_places g in
    let P : List Actor → Type 0 = λ l. item < length (places_from 0 l) in
    let own : item < length (places_from 0 g.actors) = omega arith in
    subst P (sym same) own
