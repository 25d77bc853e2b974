-- What the lists of a level's actors have at the number of an actor.
use Rattle.std.proofs.Common.{◌≡◌, ℕ, ◌+◌, true, cond, ℤ, List, [], ◌∷◌, length, take, Option, Some, None, sym, ap, ◌∙◌, subst, arith, slice_get, slice_index, get_or}
use Rattle.std.proofs.lemmas.Option.{slice_get-get_or}
use Rattle.pisdf_model.specs.Details.{of_each}
use Rattle.pisdf_model.specs.declared.actor.Actor.{Actor}
use Rattle.pisdf_model.specs.declared.actor.Body.{Body}
use Rattle.pisdf_model.specs.declared.actor.Body.TheVariants.{Kernel, Config, Child, ConfigChild}
use Rattle.pisdf_model.specs.declared.graph.Graph.{Graph}
use Rattle.pisdf_model.proofs.Lists.{right_none, unmapped}
use Rattle.param_resolver.specs.EarlyView.{EarlyView}
use Rattle.param_resolver.specs.LevelOf.{AreOfActor, AreOneEach, IsChildSound, acting_args, acting_children, acting_faults, acting_outs, level_faults}
use Rattle.param_resolver.specs.Numbering.{acting, acting_places, fires}
use Rattle.param_resolver.specs.Rates.{arg_faults}
use Rattle.param_resolver.specs.Refusal.{child}
use Rattle.param_resolver.proofs.ActingBodies.{one_args, one_child, one_outs, one_place, own_args, own_child, own_outs}
use Rattle.param_resolver.proofs.Leveling.{many_places}
use Rattle.param_resolver.proofs.Passing.{collected, filtered, flat_numbered, inside, length_collected, length_filtered, numbered, one, placed, times}
use Rattle.param_resolver.proofs.Wired.{nothing_at}

-- ---- in the lists

module _ {Y : Type 0} (h : ℕ → Actor → List Y) (ones : (n : ℕ) (x : Actor) → length (h n x) ≡ one (fires x)) (g : Graph) where
  many_of : length (of_each h g.actors) ≡ length (acting g)
  many_of = length_collected fires h ones 0 g.actors ∙ sym (length_filtered fires g.actors)

  at_actor : (a b : ℕ) (actor : Actor) (d : Y) → slice_get g.actors a ≡ Some actor → fires actor ≡ true → times fires (take a g.actors) ≡ b → slice_get (of_each h g.actors) b ≡ Some (get_or (h a actor) 0 d)
  at_actor a b actor d here acts number =
      let below = numbered fires g.actors a actor here acts in
      let many = length_collected fires h ones 0 g.actors in
      let at_a : 0 + a ≡ a = omega arith in
      slice_get-get_or (of_each h g.actors) b d (omega arith)
      ∙ ap (λ n. Some (get_or (of_each h g.actors) n d)) (sym number)
      ∙ ap Some (collected fires h ones 0 g.actors a actor d here acts ∙ ap (λ n. get_or (h n actor) 0 d) at_a)

-- the actor with a number
at_number : (g : Graph) (b : ℕ) (actor : Actor) → slice_get (acting g) b ≡ Some actor → (a : ℕ) × (slice_get g.actors a ≡ Some actor) × (fires actor ≡ true) × (times fires (take a g.actors) ≡ b)
at_number g b actor is =
    let long = length_filtered fires g.actors in
    let below = inside (acting g) b actor is in
    let at = placed fires g.actors b (omega arith) in
    let found = filtered fires g.actors at.0 at.1 at.2 at.3 in
    let same : Some at.1 ≡ Some actor = sym (subst (λ m. slice_get (acting g) m ≡ Some at.1) at.4 found) ∙ is in
    let e : at.1 ≡ actor = cc in
    (at.0, at.2 ∙ ap Some e, subst (λ (x : Actor). fires x ≡ true) e at.3, at.4)

pub are_of_actor : (graphs : List Graph) (g : Graph) (values : List ℤ) (b : ℕ) (actor : Actor) → slice_get (acting g) b ≡ Some actor → AreOfActor graphs g values b actor
are_of_actor graphs g values b actor is =
    let at = at_number g b actor is in
    let place : slice_get (acting_places g) b ≡ Some (get_or (cond (fires actor) (at.0 ∷ []) []) 0 0) = at_actor (λ a x. cond (fires x) (a ∷ []) []) (λ n x. one_place (fires x) n) g at.0 b actor 0 at.1 at.2 at.3 in
    let own : get_or (cond (fires actor) (at.0 ∷ []) []) 0 0 ≡ at.0 = ap (λ t. get_or (cond t (at.0 ∷ []) []) 0 0) at.2 in
    record {
      place = ap (slice_get g.actors) (read_at (acting_places g) b at.0 (place ∙ ap Some own)) ∙ at.1;
      args =
          ap (λ (l : List (List ℤ)). slice_get l b) (flat_numbered (λ (x : Actor). acting_args values x.body) 0 g.actors)
          ∙ at_actor (λ n (x : Actor). acting_args values x.body) (λ n x. one_args values x.body) g at.0 b actor [] at.1 at.2 at.3
          ∙ ap Some (own_args values actor.body at.2);
      outs =
          ap (λ (l : List (List ℕ)). slice_get l b) (flat_numbered (λ (x : Actor). acting_outs graphs values x.body) 0 g.actors)
          ∙ at_actor (λ n (x : Actor). acting_outs graphs values x.body) (λ n x. one_outs graphs values x.body) g at.0 b actor [] at.1 at.2 at.3
          ∙ ap Some (own_outs graphs values actor.body at.2);
      child =
          ap (λ (l : List (Option EarlyView)). slice_get l b) (flat_numbered (λ (x : Actor). acting_children graphs values x.body) 0 g.actors)
          ∙ at_actor (λ n (x : Actor). acting_children graphs values x.body) (λ n x. one_child graphs values x.body) g at.0 b actor None at.1 at.2 at.3
          ∙ ap Some (own_child graphs values actor.body at.2);
    }
  where
    read_at : (xs : List ℕ) (i x : ℕ) → slice_get xs i ≡ Some x → slice_index xs i ≡ x
    read_at xs i x is =
        let below = inside xs i x is in
        let same : Some (get_or xs i 0) ≡ Some x = sym (slice_get-get_or xs i 0 below) ∙ is in
        cc

pub are_one_each : (graphs : List Graph) (g : Graph) (values : List ℤ) → AreOneEach graphs g values
are_one_each graphs g values = record {
  places = many_places g;
  args = ap (λ (l : List (List ℤ)). length l) (flat_numbered (λ (x : Actor). acting_args values x.body) 0 g.actors) ∙ many_of (λ n (x : Actor). acting_args values x.body) (λ n x. one_args values x.body) g;
  outs = ap (λ (l : List (List ℕ)). length l) (flat_numbered (λ (x : Actor). acting_outs graphs values x.body) 0 g.actors) ∙ many_of (λ n (x : Actor). acting_outs graphs values x.body) (λ n x. one_outs graphs values x.body) g;
  children = ap (λ (l : List (Option EarlyView)). length l) (flat_numbered (λ (x : Actor). acting_children graphs values x.body) 0 g.actors) ∙ many_of (λ n (x : Actor). acting_children graphs values x.body) (λ n x. one_child graphs values x.body) g;
}

-- ---- faults

none_below : (graphs : List Graph) (values : List ℤ) (a : ℕ) (name : List ℕ) (body : Body) → acting_faults graphs values a name body ≡ [] → IsChildSound graphs values body
none_below graphs values a name (Kernel kernel args ins outs) none = tt
none_below graphs values a name (Config kernel args ins outs sets) none = tt
none_below graphs values a name (Child k args) none = unmapped (child a) _ (right_none (arg_faults values name args) _ none)
none_below graphs values a name (ConfigChild k args sets) none = tt

pub child_sound : (graphs : List Graph) (g : Graph) (values : List ℤ) (b : ℕ) (actor : Actor) → level_faults graphs g values ≡ [] → slice_get (acting g) b ≡ Some actor → IsChildSound graphs values actor.body
child_sound graphs g values b actor none is =
    let at = at_number g b actor is in
    none_below graphs values at.0 actor.name actor.body (nothing_at (λ a (x : Actor). acting_faults graphs values a x.name x.body) g.actors none at.0 actor at.1)
