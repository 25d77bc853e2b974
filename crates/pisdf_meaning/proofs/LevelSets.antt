-- What is known of a level's actors, one by one.
use Rattle.std.proofs.Common.{◌≡◌, ℕ, zero, suc, ◌<◌, ℤ, Bool, true, false, ⊎_elim, List, [], ◌∷◌, length, get_or, slice_get, Option, Some, IfSome, if◌then◌else◌, ap, sym, ◌∙◌, subst, arith}
use Rattle.std.specs.List.{filter}
use Rattle.std.proofs.lemmas.Bool.{cases_Bool, false≢true}
use Rattle.std.proofs.lemmas.List.{length-map}
use Rattle.std.proofs.lemmas.Option.{slice_get-get_or, slice_get_within}
use Rattle.param_resolver.specs.EarlyCheck.{early_of, early_faults}
use Rattle.param_resolver.specs.EarlyView.{EarlyView}
use Rattle.param_resolver.specs.LevelOf.{AreOfActor, AreOneEach, IsChildSound, args_of, child_of, level_args, level_at, level_children, level_outs, out_rates}
use Rattle.param_resolver.specs.Numbering.{acting, acting_places, fires, level_inputs}
use Rattle.param_resolver.specs.declared.level_set.LevelSet.{LevelSet}
use Rattle.pisdf_model.specs.declared.actor.Actor.{Actor}
use Rattle.pisdf_model.specs.declared.actor.Body.{Body}
use Rattle.pisdf_model.specs.declared.actor.Body.TheVariants.{Kernel, Config, Child, ConfigChild}
use Rattle.pisdf_model.specs.declared.graph.Graph.{Graph}
use Rattle.sdf_level.specs.Invariants.{how_many}
use Rattle.sdf_level.specs.Run.{is_into_actor}
use Rattle.sdf_level.specs.View.{LevelView}
use Rattle.pisdf_meaning.specs.PartsOf.{ActorParts, ArePartsOf, HasChild, HasRates}
use Rattle.pisdf_meaning.specs.Sound.{no_actor}
use Rattle.pisdf_meaning.specs.States.{tokens_at}

pub some_at : {T : Type 0} (o : Option T) (x : T) (P : T → Type 0) → o ≡ Some x → IfSome o P → P x
some_at {T} o x P is holds = let Q : Option T → Type 0 = λ m. IfSome m P in subst Q is holds

read_at : {T : Type 0} (xs : List T) (i : ℕ) (x d : T) → slice_get xs i ≡ Some x → get_or xs i d ≡ x
read_at xs i x d is = let e = sym (slice_get-get_or xs i d (slice_get_within xs i x is)) ∙ is in cc

-- ---- the actors of a level fire there

abbrev acting_with : Actor → List Actor → Bool → List Actor
acting_with y actors t = if t then y ∷ filter fires actors else filter fires actors

acting_at : (y : Actor) (actors : List Actor) (b : ℕ) (x : Actor) (t : Bool) → fires y ≡ t → slice_get (filter fires (y ∷ actors)) b ≡ Some x → slice_get (acting_with y actors t) b ≡ Some x
acting_at y actors b x t is at = let P : Bool → Type 0 = λ u. slice_get (acting_with y actors u) b ≡ Some x in subst P is at

fires_at : (actors : List Actor) (b : ℕ) (x : Actor) → slice_get (filter fires actors) b ≡ Some x → fires x ≡ true
fires_at [] b x at = cc
fires_at (y ∷ actors) zero x at = ⊎_elim
    (λ (is : fires y ≡ true).
    let here = acting_at y actors 0 x true is at in
    let same : y ≡ x = cc in
    let P : Actor → Type 0 = λ z. fires z ≡ true in
    subst P same is)
    (λ (is : fires y ≡ false). fires_at actors 0 x (acting_at y actors 0 x false is at))
    (cases_Bool (fires y))
fires_at (y ∷ actors) (suc b) x at = ⊎_elim
    (λ (is : fires y ≡ true). fires_at actors b x (acting_at y actors (suc b) x true is at))
    (λ (is : fires y ≡ false). fires_at actors (suc b) x (acting_at y actors (suc b) x false is at))
    (cases_Bool (fires y))

-- ---- what is known of one

has_rates : (graphs : List Graph) (values args : List ℤ) (rates : List ℕ) (body : Body) → args ≡ args_of values body → rates ≡ out_rates graphs values body → HasRates graphs values args rates body
has_rates graphs values args rates (Kernel kernel exprs ins outs) args_is rates_is = (rates_is, ap (λ (l : List ℤ). length l) args_is ∙ length-map exprs _)
has_rates graphs values args rates (Config kernel exprs ins outs sets) args_is rates_is = tt
has_rates graphs values args rates (Child k exprs) args_is rates_is = tt
has_rates graphs values args rates (ConfigChild k exprs sets) args_is rates_is = tt

has_child : (graphs : List Graph) (values args : List ℤ) (child : Option (Option EarlyView)) (name : List ℕ) (body : Body) → fires (record { name = name; body = body }) ≡ true → args ≡ args_of values body →
    child ≡ Some (child_of graphs values body) → IsChildSound graphs values body → HasChild graphs args child body
has_child graphs values args child name (Kernel kernel exprs ins outs) acts args_is child_is sound = tt
has_child graphs values args child name (Config kernel exprs ins outs sets) acts args_is child_is sound = absurd (false≢true acts)
has_child graphs values args child name (Child k exprs) acts args_is child_is sound =
    (child_is ∙ ap (λ (l : List ℤ). Some (Some (early_of graphs k l))) (sym args_is), ap (early_faults graphs k) args_is ∙ sound, ap (λ (l : List ℤ). length l) args_is ∙ length-map exprs _)
has_child graphs values args child name (ConfigChild k exprs sets) acts args_is child_is sound = absurd (false≢true acts)

-- ---- the parts

module _ (graphs : List Graph) (g : Graph) (early : EarlyView) (values : List ℤ) (set : LevelSet)
    (level_is : set.level ≡ level_at graphs g early values) (places_is : set.places ≡ acting_places g) (args_is : set.args ≡ level_args g values) (outs_is : set.outs ≡ level_outs graphs g values) (children_is : set.children ≡ level_children graphs g values)
    (inputs_are : (b : ℕ) (actor : Actor) → slice_get (acting g) b ≡ Some actor → how_many (is_into_actor b) set.level.links ≡ level_inputs graphs actor)
    (each : (b : ℕ) (actor : Actor) → slice_get (acting g) b ≡ Some actor → AreOfActor graphs g values b actor) (many : AreOneEach graphs g values)
    (sound : (b : ℕ) (actor : Actor) → slice_get (acting g) b ≡ Some actor → IsChildSound graphs values actor.body) where
  count : set.level.actors ≡ length (acting g)
  count = ap (λ (l : LevelView). l.actors) level_is

  some : (b : ℕ) → b < set.level.actors → slice_get (acting g) b ≡ Some (get_or (acting g) b no_actor)
  some b h = slice_get-get_or (acting g) b no_actor (let c = count in omega arith)

  placed : (b : ℕ) → b < set.level.actors → slice_get g.actors (get_or set.places b 0) ≡ Some (get_or (acting g) b no_actor)
  placed b h = ap (λ (l : List ℕ). slice_get g.actors (get_or l b 0)) places_is ∙ (each b (get_or (acting g) b no_actor) (some b h)).place

  one_known : (b : ℕ) (actor : Actor) → slice_get (acting g) b ≡ Some actor → ActorParts graphs values set b actor
  one_known b actor at =
      let own = each b actor at in
      let own_args : tokens_at set.args b ≡ args_of values actor.body = ap (λ (l : List (List ℤ)). tokens_at l b) args_is ∙ read_at (level_args g values) b (args_of values actor.body) [] own.args in
      let own_outs : get_or set.outs b [] ≡ out_rates graphs values actor.body = ap (λ (l : List (List ℕ)). get_or l b []) outs_is ∙ read_at (level_outs graphs g values) b (out_rates graphs values actor.body) [] own.outs in
      let own_child : slice_get set.children b ≡ Some (child_of graphs values actor.body) = ap (λ (l : List (Option EarlyView)). slice_get l b) children_is ∙ own.child in
      record {
        ins = inputs_are b actor at;
        rates = has_rates graphs values (tokens_at set.args b) (get_or set.outs b []) actor.body own_args own_outs;
        child = has_child graphs values (tokens_at set.args b) (slice_get set.children b) actor.name actor.body (fires_at g.actors b actor at) own_args own_child (sound b actor at);
      }

  pub are_parts : ArePartsOf graphs g early values set
  are_parts = record {
    level = level_is;
    args = args_is;
    one_place = ap (λ (l : List ℕ). length l) places_is ∙ many.places ∙ sym count;
    one_args = ap (λ (l : List (List ℤ)). length l) args_is ∙ many.args ∙ sym count;
    one_outs = ap (λ (l : List (List ℕ)). length l) outs_is ∙ many.outs ∙ sym count;
    one_child = ap (λ (l : List (Option EarlyView)). length l) children_is ∙ many.children ∙ sym count;
    inside = λ b h. slice_get_within g.actors (get_or set.places b 0) (get_or (acting g) b no_actor) (placed b h);
    places = λ b h. some b h ∙ sym (placed b h);
    actors = λ b actor h at. one_known b actor at;
  }
