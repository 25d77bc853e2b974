-- The items that call jobs, as steps of the paths of these.
use Rattle.std.proofs.Common.{◌≡◌, ⊎_elim, ℕ, zero, suc, ◌+◌, ◌-◌, ◌<◌, ◌≤◌, true, false, List, [], ◌∷◌, length, slice_index, Option, Some, None, refl, sym, ap, ◌∙◌, subst, arith}
use Rattle.std.proofs.lemmas.Bool.{cases_Bool, le-ltb, lt-ltb}
use Rattle.std.proofs.lemmas.Option.{get_or_from_slice_get, slice_get_within}
use Rattle.pisdf_model.specs.InterfaceWires.{is_configuration}
use Rattle.pisdf_model.specs.Range.{InRange}
use Rattle.pisdf_model.specs.WellFormed.{WellFormed}
use Rattle.pisdf_model.specs.declared.actor.Actor.{Actor}
use Rattle.pisdf_model.specs.declared.graph.Graph.{Graph}
use Rattle.pisdf_model.specs.declared.graph.Graphs.{Graphs}
use Rattle.pisdf_meaning.specs.declared.firing.Firing.{Firing}
use Rattle.pisdf_meaning.proofs.Fitting.{AreFew, few_parts}
use Rattle.nested_jobs.specs.Rules.{Call}
use Rattle.job_flow.specs.Graphs.{node_at}
use Rattle.job_rules.specs.Items.{Prepared, compile_number, graph_of, no_graph, nodes_in, prepared_in}
use Rattle.job_rules.specs.Meant.{IsFit}
use Rattle.job_preparing.specs.View as preparing
use Rattle.job_preparing.specs.View.{ConfiguringView}
use Rattle.job_rules.specs.Items.{step_of_node}
use Rattle.graph_firing.specs.Nodes.View as running
use Rattle.graph_firing.specs.View.{OpenView, answered, task}
use Rattle.graph_firing.specs.Paths.{IsCall, step_of, step_of_item}
use Rattle.graph_firing.specs.Places.{config_places, places_from}
use Rattle.graph_firing.specs.Invariants.{KeepsWith, view_with}
use Rattle.graph_firing.specs.Running.{RunsFor}
use Rattle.graph_firing.specs.Stages.{HasNodes, IsNode, IsNodeStep}
use Rattle.graph_firing.specs.declared.stage.Stage.{Stage}
use Rattle.graph_firing.specs.declared.stage.Stage.TheVariants.{Waiting, Compiling, Refused, Nodes}
use Rattle.graph_firing.proofs.NodeMethods.{never_called}
use Rattle.graph_firing.proofs.NodeRules as nodes
use Rattle.graph_firing.proofs.NodeSteps as steps
use Rattle.graph_firing.proofs.Early as early
use Rattle.graph_firing.proofs.Offered as offered
use Rattle.graph_firing.proofs.Placed.{config_places_are, many_places}

-- ---- places are less than the number of actors

abbrev AllBelow : ℕ → List ℕ → Type 0
AllBelow high [] = Unit {0}
AllBelow high (x ∷ xs) = (x < high) × AllBelow high xs

one_below : (high : ℕ) (xs : List ℕ) (i : ℕ) → AllBelow high xs → i < length xs → slice_index xs i < high
one_below high [] i all inside = absurd (omega arith)
one_below high (x ∷ xs) zero all inside = all.0
one_below high (x ∷ xs) (suc i) all inside = one_below high xs i all.1 (omega arith)

places_below : (a : ℕ) (actors : List Actor) → AllBelow (a + length actors) (places_from a actors)
places_below a [] = tt
places_below a (x ∷ actors) =
    let same : a + 1 + length actors ≡ a + length (x ∷ actors) = omega arith in
    let rest = subst (λ high. AllBelow high (places_from (a + 1) actors)) same (places_below (a + 1) actors) in
    let own : a < a + length (x ∷ actors) = omega arith in
    ⊎_elim
    (λ (config : is_configuration x.body ≡ true). rw config (own, rest))
    (λ (acts : is_configuration x.body ≡ false). rw acts rest)
    (cases_Bool (is_configuration x.body))

place_below : (g : Graph) (i : ℕ) → i < compile_number g → slice_index (config_places g) i < length g.actors
place_below g i inside =
    let many = many_places g in
    let below = one_below (0 + length g.actors) (places_from 0 g.actors) i (places_below 0 g.actors) (omega arith) in
    let same = ap (λ l. slice_index l i) (config_places_are g) in
    omega arith

-- the graph that is fired has few actors
few_actors : (graphs : Graphs) (firing : Firing) → InRange graphs → WellFormed graphs → IsFit graphs.graphs firing → length (graph_of graphs.graphs firing).actors ≤ 64
few_actors graphs firing range well fit =
    let g = graph_of graphs.graphs firing in
    let there = fit.here ∙ ap Some (sym (get_or_from_slice_get graphs.graphs firing.graph fit.g no_graph fit.here)) in
    let parts : AreFew g = subst AreFew (get_or_from_slice_get graphs.graphs firing.graph g g there) (few_parts graphs range well firing.graph g (slice_get_within graphs.graphs firing.graph g there)) in
    parts.actors

-- ---- by numbers

config_step : (graphs : List Graph) (g : Graph) (firing : Firing) (i : ℕ) (o : Option Prepared) → i < compile_number g → step_of_item graphs g firing i o ≡ (slice_index (config_places g) i, 0)
config_step graphs g firing i None below = refl
config_step graphs g firing i (Some p) below = rw (lt-ltb i (compile_number g) below) refl

node_step : (graphs : List Graph) (g : Graph) (firing : Firing) (i n : ℕ) (p : Prepared) → i ≡ compile_number g + 1 + n → step_of_item graphs g firing i (Some p) ≡ step_of_node g (node_at (nodes_in graphs g firing p) n)
node_step graphs g firing i n p at =
    let e : i - (compile_number g + 1) ≡ n = omega arith in
    rw (le-ltb i (compile_number g) (omega arith)) (ap (λ m. step_of_node g (node_at (nodes_in graphs g firing p) m)) e)

module _ (c : ConfiguringView) (workers : ℕ) (stage : Stage) (keeps : KeepsWith c workers stage) (v : OpenView) (is : view_with c workers stage ≡ v) where
  abbrev k : ℕ
  k = compile_number (preparing.graph_in c)

  -- an item that calls a job isn't the compilation
  pub call_apart : (item : ℕ) → IsCall v item → item ≡ k → ⊥
  call_apart item call same =
      never_called c.firing call.job _ (sym (early.task_here c workers stage keeps.marks_many) ∙ ap (task (view_with c workers stage)) (sym same) ∙ ap (λ (x : OpenView). task x item) is ∙ call.task_is)

  -- ---- configuration actors

  module _ (item place : ℕ) (below : item < k) (place_is : place ≡ slice_index (config_places (preparing.graph_in c)) item) where
    pub place_few : place < 64
    place_few =
        let inside = place_below (preparing.graph_in c) item below in
        let few = few_actors c.graphs c.firing keeps.valid.in_range keeps.valid.well_formed keeps.fit in
        omega arith

    pub actor_step : (place, 0) ≡ step_of v item
    actor_step =
        ap (λ a. (a, 0)) place_is
        ∙ sym (config_step c.graphs.graphs (preparing.graph_in c) c.firing item (prepared_in (preparing.graph_in c) (answered (view_with c workers stage))) below)
        ∙ ap (λ (x : OpenView). step_of x item) is

-- ---- nodes

module _ (c : ConfiguringView) (workers n item : ℕ) (at : item ≡ compile_number (preparing.graph_in c) + 1 + n) where
  abbrev w : Stage → OpenView
  w stage = view_with c workers stage

  may_step : (stage : Stage) → KeepsWith c workers stage → IsCall (w stage) item → HasNodes (IsNode n) stage
  may_step Waiting keeps is = offered.no_node c workers Waiting keeps.marks_many refl n _ (ap (task (w Waiting)) (sym at) ∙ is.task_is)
  may_step Compiling keeps is = offered.no_node c workers Compiling keeps.marks_many refl n _ (ap (task (w Compiling)) (sym at) ∙ is.task_is)
  may_step (Refused refusal) keeps is = offered.no_node c workers (Refused refusal) keeps.marks_many refl n _ (ap (task (w (Refused refusal))) (sym at) ∙ is.task_is)
  may_step (Nodes r) keeps is =
      let own : running.task r n ≡ Some (Call is.job) = sym (steps.task_is c workers n item at r keeps) ∙ is.task_is in
      steps.task_inside r n (Call is.job) own

  step_at : (step : ℕ × ℕ) (stage : Stage) → KeepsWith c workers stage → HasNodes (IsNodeStep n step) stage → step ≡ step_of (w stage) item
  step_at step Waiting keeps is = absurd is
  step_at step Compiling keeps is = absurd is
  step_at step (Refused refusal) keeps is = absurd is
  step_at step (Nodes r) keeps is =
      let runs : RunsFor c workers r = keeps.stage_fits in
      let g = preparing.graph_in c in
      is
      ∙ (λ t. step_of_node (graph_of (runs.graphs_are t).graphs (runs.firing_is t)) (node_at (nodes_in (runs.graphs_are t).graphs (graph_of (runs.graphs_are t).graphs (runs.firing_is t)) (runs.firing_is t) r.prepared) n))
      ∙ sym (node_step c.graphs.graphs g c.firing item n r.prepared at)
      ∙ ap (step_of_item c.graphs.graphs g c.firing item) (sym (nodes.prepared_is c workers r keeps.marks_many runs))

module _ (c : ConfiguringView) (workers : ℕ) (stage : Stage) (keeps : KeepsWith c workers stage) (v : OpenView) (is : view_with c workers stage ≡ v)
    (item count : ℕ) (counted : count ≡ compile_number (preparing.graph_in c)) (past : count ≤ item) (other : item ≡ compile_number (preparing.graph_in c) → ⊥) where
  abbrev n : ℕ
  n = item - count - 1

  at : item ≡ compile_number (preparing.graph_in c) + 1 + n
  at = omega (arith, other)

  pub above : 1 ≤ item - count
  above = let e = at in omega (arith, other)

  pub step_ok : IsCall v item → HasNodes (IsNode n) stage
  step_ok call = let P : OpenView → Type 0 = λ x. IsCall x item in may_step c workers n item at stage keeps (subst P (sym is) call)

  pub step_is : (step : ℕ × ℕ) → HasNodes (IsNodeStep n step) stage → step ≡ step_of v item
  step_is step so = step_at c workers n item at step stage keeps so ∙ ap (λ (x : OpenView). step_of x item) is
