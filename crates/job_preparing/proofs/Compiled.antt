-- What a compilation tells of its firing.
use Rattle.std.proofs.Common.{◌≡◌, ℕ, ℤ, List, [], ◌∷◌, map, Some, Result, Ok, refl, sym, ap, ◌∙◌, subst, slice_get}
use Rattle.job_compiler.specs.Compilation.{Compilation, IsMapped}
use Rattle.param_resolver.specs.Assignment.{numbers, param_faults, values_of}
use Rattle.param_resolver.specs.EarlyCheck.{as_refusal}
use Rattle.param_resolver.specs.Refusal as part
use Rattle.param_resolver.specs.declared.level_set.LevelSet.{LevelSet}
use Rattle.pisdf_model.specs.declared.graph.Graph.{Graph}
use Rattle.sdf_level.specs.View.{LevelView}
use Rattle.sdf_level.specs.declared.node.Node.{Node}
use Rattle.sdf_level.specs.declared.single_rate.Edge.{Edge}
use Rattle.single_rate.specs.Expanded.{edges, nodes}
use Rattle.pisdf_meaning.specs.Causes.{unless_refused}
use Rattle.pisdf_meaning.specs.Endings.{Then}
use Rattle.pisdf_meaning.specs.Preparing.{Schedules, level_in, rated, supplied_values}
use Rattle.pisdf_meaning.specs.declared.firing.Configured.{Configured}
use Rattle.pisdf_meaning.specs.declared.firing.Firing.{Firing}
use Rattle.pisdf_meaning.specs.declared.refusal.Refusal.{Refusal}
use Rattle.job_rules.specs.Doing as doing
use Rattle.job_rules.specs.Items.{Prepared, edges_in, graph_of, nodes_in, values_in}
use Rattle.job_rules.specs.Words as words
use Rattle.job_preparing.specs.CompileTasks.{IsReadyWith, schedule_of}

unrefused : {T : Type 0} (graphs : List Graph) (g : Graph) (path : List ℕ) (faults : List part.Refusal) (own other : T) → unless_refused graphs g path faults own ≡ Ok other → own ≡ other
unrefused graphs g path [] own other e = cc
unrefused graphs g path (refusal ∷ faults) own other e = absurd (cc)

module _ (graphs : List Graph) (workers : ℕ) (firing : Firing) (left : List Configured) (c : Compilation) (set : LevelSet) (values : List ℤ) (ready : IsReadyWith graphs workers firing left c set values) where
  abbrev g : Graph
  g = graph_of graphs firing

  abbrev p : Prepared
  p = record { left = left; schedule = schedule_of c }

  pub values_are : values ≡ values_in g firing p
  values_are = sym (unrefused graphs g firing.path (map as_refusal (param_faults g.params (supplied_values g firing left))) (numbers (values_of g.params (supplied_values g firing left))) values ready.values_are)

  pub level_is : c.level ≡ level_in graphs g firing (values_in g firing p)
  level_is = ready.level_is ∙ ready.set_is.level ∙ ap (level_in graphs g firing) values_are

  pub nodes_are : c.graph.nodes ≡ nodes_in graphs g firing p
  nodes_are = ready.compiled.expanded.nodes_are ∙ ap (λ (level : LevelView). nodes level c.counts c.order) level_is

  pub edges_are : c.graph.edges ≡ edges_in graphs g firing p
  edges_are = ready.compiled.expanded.edges_are ∙ ap (λ (level : LevelView). edges level c.counts c.order) level_is

  pub mapped_so : IsMapped record { nodes = nodes_in graphs g firing p; edges = edges_in graphs g firing p; ranks = [] } workers c.mapping
  mapped_so =
      let start : IsMapped record { nodes = c.graph.nodes; edges = c.graph.edges; ranks = [] } c.workers c.mapping =
      record { costs = ready.compiled.mapped.costs; are_costs = ready.compiled.mapped.are_costs; priority = ready.compiled.mapped.priority; homes = ready.compiled.mapped.homes } in
      let N : List Node → Type 0 = λ ns. IsMapped record { nodes = ns; edges = c.graph.edges; ranks = [] } c.workers c.mapping in
      let E : List Edge → Type 0 = λ es. IsMapped record { nodes = nodes_in graphs g firing p; edges = es; ranks = [] } c.workers c.mapping in
      let W : ℕ → Type 0 = λ w. IsMapped record { nodes = nodes_in graphs g firing p; edges = edges_in graphs g firing p; ranks = [] } w c.mapping in
      subst W ready.workers_are (subst E edges_are (subst N nodes_are start))

  -- what the compilation answers
  pub schedules_here : slice_get graphs firing.graph ≡ Some g → doing.IsCompiled graphs firing left (words.Schedules (schedule_of c))
  schedules_here here =
      let V : Result (List ℤ) Refusal → Type 0 = λ r. Then (λ vs end. Then (λ ws end. Schedules g firing (level_in graphs g firing ws) end) (rated graphs g firing vs) end) r (Ok (schedule_of c)) in
      let R : Result (List ℤ) Refusal → Type 0 = λ r. Then (λ ws end. Schedules g firing (level_in graphs g firing ws) end) r (Ok (schedule_of c)) in
      let L : LevelView → Type 0 = λ level. Schedules g firing level (Ok (schedule_of c)) in
      let scheduled : L c.level = record { repetition = ready.compiled.repetition; within = ready.compiled.within; order = ready.compiled.order_is } in
      let level : c.level ≡ level_in graphs g firing values = ready.level_is ∙ ready.set_is.level in
      record {
        g = g;
        here = here;
        end = Ok (schedule_of c);
        leads = subst V (sym ready.values_are) (subst R (sym ready.rated_so) (subst L level scheduled));
        answer_is = refl;
      }
