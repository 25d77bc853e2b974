-- What an early check without a fault knows of configuration actors.
use Rattle.std.proofs.Common.{◌≡◌, ℕ, ◌+◌, ◌<◌, true, ℤ, List, [], ◌∷◌, length, map, Some, None, Option, refl, sym, ap, ◌∙◌, subst, get_or, slice_get}
use Rattle.std.specs.List.{flat_map}
use Rattle.std.proofs.lemmas.List.{length-map}
use Rattle.std.proofs.lemmas.Option.{slice_get-get_or, slice_get_within}
use Rattle.pisdf_model.specs.InterfaceWires.{is_configuration}
use Rattle.pisdf_model.specs.declared.actor.Actor.{Actor}
use Rattle.pisdf_model.specs.declared.actor.Body.{Body}
use Rattle.pisdf_model.specs.declared.actor.Body.TheVariants.{Kernel, Config, Child, ConfigChild}
use Rattle.pisdf_model.specs.declared.graph.Graph.{Graph}
use Rattle.pisdf_model.proofs.Lists.{left_none, right_none, unmapped}
use Rattle.param_resolver.specs.EarlyCheck.{Checked, check_by, check_of, config_args, config_children, config_faults, config_outs, early_faults, early_numbers, early_of, early_under, faults_under, rated_faults}
use Rattle.param_resolver.specs.EarlyView.{EarlyView, forest_of, trees_of}
use Rattle.param_resolver.specs.Rates.{arg_faults, arg_values, interface_rates}
use Rattle.param_resolver.specs.Refusal.{child}
use Rattle.param_resolver.proofs.Sound.{each_none}
use Rattle.pisdf_meaning.specs.Sound.{AllKnow, IsConfiguration, Knows, KnowsBody, actor_at, no_actor}
use Rattle.pisdf_meaning.specs.States.{tokens_at}
use Rattle.pisdf_meaning.proofs.ConfiguredOnes.{GivesOne, one_each, stands_at, stands_inside}

pub trees_back : (trees : List (Option EarlyView)) → trees_of (forest_of trees) ≡ trees
trees_back [] = refl
trees_back (None ∷ trees) = ap (λ (ts : List (Option EarlyView)). None ∷ ts) (trees_back trees)
trees_back (Some e ∷ trees) = ap (λ (ts : List (Option EarlyView)). Some e ∷ ts) (trees_back trees)

module _ (check : ℕ → List ℤ → Checked) (values : List ℤ) where
  args_one : GivesOne (config_args values)
  args_one (Kernel kernel args ins outs) = refl
  args_one (Config kernel args ins outs sets) = refl
  args_one (Child k args) = refl
  args_one (ConfigChild k args sets) = refl

  outs_one : GivesOne (config_outs check values)
  outs_one (Kernel kernel args ins outs) = refl
  outs_one (Config kernel args ins outs sets) = refl
  outs_one (Child k args) = refl
  outs_one (ConfigChild k args sets) = refl

  children_one : GivesOne (config_children check values)
  children_one (Kernel kernel args ins outs) = refl
  children_one (Config kernel args ins outs sets) = refl
  children_one (Child k args) = refl
  children_one (ConfigChild k args sets) = refl

-- what is known of a configuration actor, where this stands in the lists at its number
body_known : (graphs : List Graph) (g : Graph) (values : List ℤ) (rates : List ℕ) (early : EarlyView) (number a : ℕ) (actor : List ℕ) (body : Body) → is_configuration body ≡ true
    → config_faults (check_of graphs) graphs g values rates a actor body ≡ []
    → tokens_at early.args number ≡ get_or (config_args values body) 0 []
    → get_or early.outs number [] ≡ get_or (config_outs (check_of graphs) values body) 0 []
    → slice_get (trees_of early.children) number ≡ Some (get_or (config_children (check_of graphs) values body) 0 None)
    → KnowsBody graphs early number body
body_known graphs g values rates early number a actor (Kernel kernel args ins outs) is none args_are outs_are child_is = tt
body_known graphs g values rates early number a actor (Config kernel args ins outs sets) is none args_are outs_are child_is = (ap length args_are ∙ length-map args _, ap length outs_are ∙ length-map outs _)
body_known graphs g values rates early number a actor (Child k args) is none args_are outs_are child_is = tt
body_known graphs g values rates early number a actor (ConfigChild k args sets) is none args_are outs_are child_is =
    let checked = left_none (map (child a) (check_of graphs k (arg_values values args)).faults) _ (right_none (arg_faults values actor args) _ none) in
    let sound : early_faults graphs k (arg_values values args) ≡ [] = unmapped (child a) (early_faults graphs k (arg_values values args)) checked in
    let given : arg_values values args ≡ tokens_at early.args number = sym args_are in (
      ap length args_are ∙ length-map args _,
      outs_are ∙ ap (λ inherited. (early_of graphs k inherited).outputs) given,
      child_is ∙ ap (λ inherited. Some (Some (early_of graphs k inherited))) given,
      ap (λ inherited. early_faults graphs k inherited) args_are ∙ sound,
    )

module _ (graphs : List Graph) (g : Graph) (inherited : List ℤ) (none : faults_under (check_of graphs) graphs g inherited ≡ []) where
  abbrev values : List ℤ
  values = early_numbers g inherited

  abbrev rates : List ℕ
  rates = interface_rates values g.inputs

  abbrev early : EarlyView
  early = early_under (check_of graphs) g inherited

  each : (number a : ℕ) → IsConfiguration g number a → KnowsBody graphs early number (actor_at g a).body
  each number a at =
      let faults = each_none 0 (λ n (actor : Actor). config_faults (check_of graphs) graphs g values rates n actor.name actor.body) g.actors (right_none (rated_faults g inherited) _ none) a no_actor at.inside in
      let trees = flat_map (λ (x : Actor). config_children (check_of graphs) values x.body) g.actors in
      let child_there = slice_get-get_or trees number None (stands_inside (config_children (check_of graphs) values) (children_one (check_of graphs) values) g number a at) in
      let child_is = ap (λ ts. slice_get ts number) (trees_back trees) ∙ child_there ∙ ap Some (stands_at (config_children (check_of graphs) values) (children_one (check_of graphs) values) g number a at None) in
      body_known graphs g values rates early number (0 + a) (actor_at g a).name (actor_at g a).body at.is faults
      (stands_at (config_args values) (args_one (check_of graphs) values) g number a at [])
      (stands_at (config_outs (check_of graphs) values) (outs_one (check_of graphs) values) g number a at [])
      child_is

  knows : Knows graphs g early
  knows = record { one_each = one_each (config_outs (check_of graphs) values) (outs_one (check_of graphs) values) g; each = each }

-- the check unfolds
abbrev pub Unfolds : List Graph → Type 0
Unfolds graphs = (place : ℕ) (inherited : List ℤ) → place < length graphs → check_of graphs place inherited ≡ check_by (check_of graphs) graphs (slice_get graphs place) inherited

pub all_know : (graphs : List Graph) → Unfolds graphs → AllKnow graphs
all_know graphs unfolds place g inherited is none =
    let same : check_of graphs place inherited ≡ check_by (check_of graphs) graphs (Some g) inherited = unfolds place inherited (slice_get_within graphs place g is) ∙ ap (λ o. check_by (check_of graphs) graphs o inherited) is in
    let P : Checked → Type 0 = λ checked. Knows graphs g checked.early in
    subst P (sym same) (knows graphs g inherited (sym (ap (λ (checked : Checked). checked.faults) same) ∙ none))
