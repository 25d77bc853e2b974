-- What configuration actors are asked, and what they give.
use Rattle.std.proofs.Common.{◌≡◌, ℕ, ◌+◌, ◌<◌, ◌≤◌, ◌^◌, ℤ, true, List, [], ◌∷◌, length, map, get_or, slice_get, Option, Some, None, refl, sym, ap, ◌∙◌, subst, arith}
use Rattle.std.proofs.lemmas.Option.{get_or_from_slice_get, slice_get-get_or, slice_get_within}
use Rattle.std.proofs.lemmas.Bool.{and_parts, eqb-true}
use Rattle.kernel_gate.specs.Value.{lengths}
use Rattle.nested_jobs.specs.Rules.{Task, Work, Call}
use Rattle.param_expr.specs.Tree.{Tree}
use Rattle.param_resolver.specs.EarlyCheck.{early_faults, early_of}
use Rattle.pisdf_model.specs.Hold.{initial, actor_state}
use Rattle.pisdf_model.specs.InterfaceWires.{is_configuration}
use Rattle.pisdf_model.specs.Ports.{body_fits, inherited_count, sets_of}
use Rattle.pisdf_model.specs.Range.{InRange}
use Rattle.pisdf_model.specs.WellFormed.{WellFormed}
use Rattle.pisdf_model.specs.declared.actor.Actor.{Actor}
use Rattle.pisdf_model.specs.declared.actor.Port.{Port}
use Rattle.pisdf_model.specs.declared.actor.Body.{Body}
use Rattle.pisdf_model.specs.declared.actor.Body.TheVariants.{Kernel, Config, Child, ConfigChild}
use Rattle.pisdf_model.specs.declared.graph.Graph.{Graph}
use Rattle.pisdf_model.specs.declared.graph.Graphs.{Graphs}
use Rattle.pisdf_meaning.specs.Configuring.{Configuration, config_args, config_firing, config_rates, configurations, early_in, fed_to}
use Rattle.pisdf_meaning.specs.Nested.{configuration_at}
use Rattle.pisdf_meaning.specs.Sound.{IsConfiguration, KnowsBody, actor_at, no_actor}
use Rattle.pisdf_meaning.specs.States.{actor_list}
use Rattle.pisdf_meaning.specs.declared.firing.Firing.{Firing}
use Rattle.pisdf_meaning.proofs.Fitting.{AreFew, actor_fits, few_parts, few_sets}
use Rattle.pisdf_meaning.proofs.KeptSizes.{Levelled}
use Rattle.pisdf_meaning.proofs.Knowing.{Unfolds, all_know}
use Rattle.pisdf_meaning.proofs.MadeLevels.{levels_made}
use Rattle.pisdf_meaning.proofs.SoundGraphs.{levelled}
use Rattle.pisdf_meaning.proofs.StateSizes.{StateFits, state_fits, state_in_sizes}
use Rattle.job_rules.specs.Items.{config_task, graph_of}
use Rattle.job_rules.specs.Meant.{IsFit}
use Rattle.job_rules.specs.Words as words
use Rattle.job_rules.specs.Words.{Asked, Spot}
use Rattle.job_rules.proofs.Sources.{Found, found}
use Rattle.job_preparing.specs.Unclaimed.{kernel_work}
use Rattle.job_preparing.specs.View.{task_of}

-- ---- the graph of a firing

pub here : (graphs : List Graph) (firing : Firing) → IsFit graphs firing → slice_get graphs firing.graph ≡ Some (graph_of graphs firing)
here graphs firing fit = fit.here ∙ ap Some (sym (get_or_from_slice_get graphs firing.graph fit.g _ fit.here))

-- the element at its place
pub graph_at : (graphs : List Graph) (firing : Firing) → IsFit graphs firing → (items : List Graph) (x : Graph) → items ≡ graphs → get_or items firing.graph x ≡ graph_of graphs firing
graph_at graphs firing fit items x e = ap (λ (l : List Graph). get_or l firing.graph x) e ∙ get_or_from_slice_get graphs firing.graph (graph_of graphs firing) x (here graphs firing fit)

-- ---- kernels

-- the output rates that a kernel is asked for are those of the actor
lens_of : (graphs : List Graph) (g : Graph) (firing : Firing) (c : Configuration) (body : Body) (spot : Spot) (asked : Asked) → config_task graphs g firing c body ≡ Some (Work (words.Fires spot asked)) → asked.lens ≡ config_rates graphs firing c.number
lens_of graphs g firing c (Kernel kernel args ins outs) spot asked e = absurd (cc)
lens_of graphs g firing c (Child place args) spot asked e = absurd (cc)
lens_of graphs g firing c (Config kernel args ins outs sets) spot asked e =
    let own : Asked = record { kind = kernel; args = config_args graphs firing c.number; inputs = fed_to g firing.inputs c.place (length ins); lens = config_rates graphs firing c.number; sets = length sets } in
    let same : own ≡ asked = cc in
    sym (ap (λ (a : Asked). a.lens) same)
lens_of graphs g firing c (ConfigChild place args sets) spot asked e = absurd (cc)

pub lens_are : (graphs : List Graph) (g : Graph) (firing : Firing) (n : ℕ) (spot : Spot) (asked : Asked) → task_of graphs g firing (slice_get (configurations g) n) ≡ Some (Work (words.Fires spot asked)) → asked.lens ≡ config_rates graphs firing n
lens_are graphs g firing n spot asked e = go (slice_get (configurations g) n) refl e
  where
    go : (o : Option Configuration) → slice_get (configurations g) n ≡ o → task_of graphs g firing o ≡ Some (Work (words.Fires spot asked)) → asked.lens ≡ config_rates graphs firing n
    go None is e = absurd (cc)
    go (Some c) is e = lens_of graphs g firing c c.body spot asked e ∙ ap (config_rates graphs firing) (let m = (found g n c is).1 in omega arith)

-- a kernel's task
pub kernel_task : (graphs : List Graph) (g : Graph) (firing : Firing) (number a : ℕ) (kernel : ℕ) (args : List Tree) (ins : List (List ℕ)) (outs : List Port) (sets : List ℕ) → (actor_at g a).body ≡ Config kernel args ins outs sets →
    task_of graphs g firing (Some (configuration_at g number a)) ≡ Some (Work (kernel_work graphs g firing number a (actor_at g a).name kernel (length ins) (length sets)))
kernel_task graphs g firing number a kernel args ins outs sets is = ap (config_task graphs g firing (configuration_at g number a)) is

-- a call's
pub call_task : (graphs : List Graph) (g : Graph) (firing : Firing) (number a : ℕ) (place : ℕ) (args : List Tree) (sets : List ℕ) → (actor_at g a).body ≡ ConfigChild place args sets →
    task_of graphs g firing (Some (configuration_at g number a)) ≡ Some (Call (config_firing graphs g firing (configuration_at g number a) place))
call_task graphs g firing number a place args sets is = ap (config_task graphs g firing (configuration_at g number a)) is

-- ---- firings of graphs

module _ (graphs : Graphs) (range : InRange graphs) (well : WellFormed graphs) (firing : Firing) (g : Graph) (at_graph : slice_get graphs.graphs firing.graph ≡ Some g) (number a : ℕ) (is : IsConfiguration g number a) where
  graph_inside : firing.graph < length graphs.graphs
  graph_inside = slice_get_within graphs.graphs firing.graph g at_graph

  own_graph : get_or graphs.graphs firing.graph g ≡ g
  own_graph = get_or_from_slice_get graphs.graphs firing.graph g g at_graph

  parts : AreFew g
  parts = subst AreFew own_graph (few_parts graphs range well firing.graph g graph_inside)

  pub few : length g.fifos + a < 2 ^ 64
  few =
      let fifos = parts.fifos in
      let actors = parts.actors in
      let inside = is.inside in
      omega arith

  pub few_actors : length g.actors ≤ 64
  few_actors = parts.actors

  pub sets_few : (body : Body) → (actor_at g a).body ≡ body → length (sets_of body) < 2 ^ 32
  sets_few body body_is =
      let P : Graph → Type 0 = λ x. (b : ℕ) (e : Actor) → b < length x.actors → length (sets_of (get_or x.actors b e).body) < 2 ^ 32 in
      let Q : Body → Type 0 = λ b. length (sets_of b) < 2 ^ 32 in
      subst Q body_is (subst P own_graph (few_sets graphs range well firing.graph g graph_inside) a no_actor is.inside)

  module _ (unfolds : Unfolds graphs.graphs) (fit : IsFit graphs.graphs firing) (place : ℕ) (args : List Tree) (sets : List ℕ) (body_is : (actor_at g a).body ≡ ConfigChild place args sets) where
    abbrev G : List Graph
    G = graphs.graphs

    knows : KnowsBody G (early_in G firing) number (ConfigChild place args sets)
    knows =
        let P : Body → Type 0 = λ b. KnowsBody G (early_in G firing) number b in
        subst P body_is ((all_know G unfolds firing.graph g firing.inherited at_graph fit.sound).each number a is)

    abbrev child : Firing
    child = config_firing G g firing (configuration_at g number a) place

    pub child_rates : (early_of G child.graph child.inherited).outputs ≡ config_rates G firing number
    child_rates = sym knows.1

    level : Levelled G firing.graph g
    level = levelled graphs well firing.graph g at_graph (levels_made graphs range well)

    states : StateFits G g firing.state
    states = state_fits G g firing.state (fit.state ∙ ap lengths level.begins)

    actor_there : slice_get g.actors a ≡ Some (actor_at g a)
    actor_there = slice_get-get_or g.actors a no_actor is.inside

    pub child_state : lengths child.state ≡ lengths (initial G place)
    child_state = state_in_sizes G place (actor_list g firing.state a) (states.actors a (actor_at g a) actor_there ∙ ap (λ (x : Body). length (actor_state (initial G) x)) body_is)

    args_many : length args ≡ inherited_count (slice_get G place)
    args_many =
        let P : Graph → Type 0 = λ x. (b : ℕ) (e : Actor) → b < length x.actors → body_fits (λ c. true) G (get_or x.actors b e).body ≡ true in
        let fits = subst P own_graph (actor_fits graphs range well firing.graph g graph_inside) a no_actor is.inside in
        let own : body_fits (λ c. true) G (ConfigChild place args sets) ≡ true = ap (body_fits (λ c. true) G) (sym body_is) ∙ fits in
        eqb-true (length args) (inherited_count (slice_get G place)) (and_parts _ _ own).0

    pub child_inherited : length child.inherited ≡ inherited_count (slice_get G place)
    child_inherited = knows.0 ∙ args_many
