-- How the items of a job are named.
use Rattle.std.proofs.Common.{◌≡◌, ◌≢◌, ℕ, ◌+◌, ◌-◌, ◌<◌, ◌≤◌, ◌^◌, List, length, map, drop, Option, Some, None, refl, sym, ap, ◌∙◌, subst, arith}
use Rattle.std.specs.Prelude.{slice_index}
use Rattle.std.specs.Arc.{arc_value}
use Rattle.std.proofs.lemmas.Bool.{eq-eqb, le-ltb, lt-ltb, ne_eqb}
use Rattle.board_rules.specs.Entries.{item_of}
use Rattle.board_rules.specs.Keys.{Key}
use Rattle.board_rules.specs.Picks.{step_of_item}
use Rattle.board_rules.specs.declared.entry.ItemName.TheVariants as item
use Rattle.job_flow.specs.Frames.{inputs, lens}
use Rattle.job_flow.specs.Graphs.{node_at}
use Rattle.job_rules.specs.Items.{Prepared, compile_number, compile_rule, graph_of, left_in, node_base, nodes_in, prepared_in, rule, step_of_node}
use Rattle.nested_jobs.specs.Rules.{Call}
use Rattle.pisdf_meaning.specs.Configuring.{Configuration, configurations}
use Rattle.pisdf_meaning.specs.declared.firing.Configured.{Configured}
use Rattle.pisdf_meaning.specs.declared.firing.Firing.{Firing}
use Rattle.pisdf_model.specs.declared.graph.Graph.{Graph}
use Rattle.sdf_level.specs.declared.node.Node.{Node}
use Rattle.sdf_level.specs.declared.node.Node.TheVariants as node
use Rattle.audit_job.specs.Flowing.{flow_of, results_of}
use Rattle.audit_job.specs.Jobs.{IsJob, IsPrepared, prepared_of}
use Rattle.audit_job.specs.Marks.{answers}
use Rattle.audit_job.specs.Naming.{IsValidJob}
use Rattle.audit_job.specs.declared.job.Job.{Job}
use Rattle.audit_job.specs.declared.job.Nodes.{Nodes}
use Rattle.job_preparing.proofs.ActingPlaces.{OneEach}
use Rattle.audit_job.proofs.Answered.{unprepared}
use Rattle.audit_job.proofs.ConfigItems as config
use Rattle.audit_job.proofs.ItemRules.{count_before, count_is, item_there, rule_at}
use Rattle.audit_job.proofs.NodeFlow as flow
use Rattle.audit_job.proofs.NodeItems as items
use Rattle.audit_job.proofs.NodeWork.{actor_there}

-- ---- bounds

module _ (job : Job) (valid : IsValidJob job) where
  abbrev valid_graph : Graph
  valid_graph = graph_of valid.graphs.graphs job.firing

  -- a number of 32 bits tells the place of an actor
  pub place_few : (i : ℕ) → i < length job.places.items → slice_index job.places.items i < 2 ^ 32
  place_few i below =
      let inside = (config.is_configuration valid.graphs.graphs valid.workers job valid.is_job i below).inside in
      let few = config.few_actors valid.graphs job.firing valid.valid.in_range valid.valid.well_formed valid.is_job.fit in
      omega arith

  few_by : (o : Option Nodes) → IsPrepared valid.graphs.graphs valid.workers job.firing (answers job.marks.items) o → length job.marks.items ≤ length job.places.items + 2 ^ 32
  few_by None so =
      let many = valid.is_job.one_each in
      let places = valid.is_job.places_are.one_each in
      let counted = count_before valid.graphs.graphs job.firing (answers job.marks.items) (unprepared valid_graph (answers job.marks.items) so) in
      omega arith
  few_by (Some nodes) so =
      let many = valid.is_job.one_each in
      let places = valid.is_job.places_are.one_each in
      let counted = count_is valid.graphs.graphs job.firing (answers job.marks.items) (prepared_of nodes) so.0 in
      let same = ap (λ l. length l) (flow.nodes_are valid.graphs.graphs valid.workers job.firing nodes so.1.made) in
      let few = so.1.made.ready.compiled.expanded.sound.small.few_nodes in
      omega arith

  -- and one the number of a node
  pub node_few : (i : ℕ) → i < length job.marks.items → i - length job.places.items - 1 < 2 ^ 32
  node_few i inside = let few = few_by job.nodes valid.is_job.prepared in omega arith

-- ---- in the journal

module _ (graphs : List Graph) (workers : ℕ) (job : Job) (is : IsJob graphs workers job) (i : ℕ) where
  abbrev g : Graph
  g = graph_of graphs job.firing

  abbrev many : length job.places.items ≡ compile_number g
  many = is.places_are.one_each

  pub names_actor : (below : i < length job.places.items) → item.Configure (slice_index job.places.items i) ≡ item_of g i
  names_actor below =
      let m = many in
      rw (lt-ltb i (compile_number g) (omega arith)) (ap item.Configure (sym (config.place_is graphs workers job is i below)))

  pub names_compilation : i ≡ length job.places.items → item.Compile ≡ item_of g i
  names_compilation at =
      let m = many in
      rw (le-ltb i (compile_number g) (omega arith), eq-eqb i (compile_number g) (at ∙ m)) refl

  pub names_node : length job.places.items < i → item.Node (i - length job.places.items - 1) ≡ item_of g i
  names_node above =
      let m = many in
      let other : i ≢ compile_number g = λ same. omega arith in
      let e : i - length job.places.items - 1 ≡ i - node_base g = omega arith in
      rw (le-ltb i (compile_number g) (omega arith), ne_eqb i (compile_number g) other) (ap item.Node e)

-- ---- on paths

never_call : (firing d : Firing) (o : Option (List Configured)) → compile_rule firing o ≡ Some (Call d) → ⊥
never_call firing d None is = cc
never_call firing d (Some left) is = cc

module _ (key : Key) (workers : ℕ) (job : Job) (is : IsJob key.graphs.graphs workers job) (i : ℕ) where
  abbrev h : Graph
  h = graph_of key.graphs.graphs job.firing

  config_step : (o : Option Prepared) → i < compile_number h → step_of_item key h job.firing i o ≡ (slice_index (map (λ (c : Configuration). c.place) (configurations h)) i, 0)
  config_step None below = refl
  config_step (Some p) below = rw (lt-ltb i (compile_number h) below) refl

  pub steps_actor : (below : i < length job.places.items) → (slice_index job.places.items i, 0) ≡ step_of_item key h job.firing i (prepared_in h (answers job.marks.items))
  steps_actor below =
      let m = is.places_are.one_each in
      ap (λ k. (k, 0)) (sym (config.place_is key.graphs.graphs workers job is i below)) ∙ sym (config_step (prepared_in h (answers job.marks.items)) (omega arith))

  pub steps_node : (nodes : Nodes) → job.nodes ≡ Some nodes → length job.places.items < i → step_of_node h (node_at (arc_value nodes.compiled).graph.nodes (i - length job.places.items - 1)) ≡ step_of_item key h job.firing i (prepared_in h (answers job.marks.items))
  steps_node nodes nodes_are above =
      let m = is.places_are.one_each in
      let so : IsPrepared key.graphs.graphs workers job.firing (answers job.marks.items) (Some nodes) = subst (λ (o : Option Nodes). IsPrepared key.graphs.graphs workers job.firing (answers job.marks.items) o) nodes_are is.prepared in
      let e : i - length job.places.items - 1 ≡ i - node_base h = omega arith in
      let one : step_of_item key h job.firing i (Some (prepared_of nodes)) ≡ step_of_node h (node_at (nodes_in key.graphs.graphs h job.firing (prepared_of nodes)) (i - node_base h)) = rw (le-ltb i (compile_number h) (omega arith)) refl in
      (λ t. step_of_node h (node_at (flow.nodes_are key.graphs.graphs workers job.firing nodes so.1.made t) (e t))) ∙ sym one ∙ ap (step_of_item key h job.firing i) (sym so.0)

  module _ (nodes : Nodes) (nodes_are : job.nodes ≡ Some nodes) (above : length job.places.items < i) where
    pub steps_by : (x : Node) → node_at (arc_value nodes.compiled).graph.nodes (i - length job.places.items - 1) ≡ x → step_of_node h x ≡ step_of_item key h job.firing i (prepared_in h (answers job.marks.items))
    steps_by x which = ap (step_of_node h) (sym which) ∙ steps_node nodes nodes_are above

    pub steps_firing : (a t : ℕ) → node_at (arc_value nodes.compiled).graph.nodes (i - length job.places.items - 1) ≡ node.Firing a t → (slice_index nodes.set.places a, t) ≡ step_of_item key h job.firing i (prepared_in h (answers job.marks.items))
    steps_firing a t which =
        let places = (items.set_is key.graphs.graphs workers job is nodes nodes_are).places in
        ap (λ (l : List ℕ). (slice_index l a, t)) places ∙ steps_by (node.Firing a t) which

-- ---- calls

module _ (graphs : List Graph) (workers : ℕ) (job : Job) (is : IsJob graphs workers job) (i : ℕ) (d : Firing) (call : rule graphs job.firing (answers job.marks.items) i ≡ Some (Call d)) where
  abbrev k : Graph
  k = graph_of graphs job.firing

  -- the compilation calls nothing
  pub no_compilation : i ≢ length job.places.items
  no_compilation at =
      let m = is.places_are.one_each in
      never_call job.firing d (left_in k (answers job.marks.items)) (sym (rule_at graphs job.firing (answers job.marks.items) i (at ∙ m)) ∙ call)

  pub call_inside : i < length job.marks.items
  call_inside = let many = is.one_each in let there = item_there graphs job.firing (answers job.marks.items) i (Call d) call in omega arith

  -- so it is a node
  module _ (past : length job.places.items ≤ i) (nodes : Nodes) (nodes_are : job.nodes ≡ Some nodes) where
    abbrev n : ℕ
    n = i - length job.places.items - 1

    pub above : length job.places.items < i
    above = let other = no_compilation in omega (arith, other)

    pub node_called : n < length (arc_value nodes.compiled).graph.nodes
    node_called = items.inside graphs workers job is nodes nodes_are i above (Call d) call

    -- whose actor has a place
    pub actor_called : OneEach → (a t : ℕ) → node_at (arc_value nodes.compiled).graph.nodes n ≡ node.Firing a t → a < length nodes.set.places
    actor_called many a t which =
        let task = items.task_is graphs workers job is nodes nodes_are i above (Call d) call in
        let inside = actor_there graphs k job.firing nodes.values (node_at (flow_of nodes).nodes n) (inputs (flow_of nodes) (results_of (flow_of nodes).nodes nodes.keeps.items (answers (drop (length job.places.items + 1) job.marks.items))) n) (lens (flow_of nodes) n) a t which (Call d) task in
        let places = ap (λ (l : List ℕ). length l) (items.set_is graphs workers job is nodes nodes_are).places in
        let long = (many graphs k nodes.values).places in
        omega arith
