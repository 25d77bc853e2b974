-- The nodes of a job at their start, by the compilation that it came to.
use Rattle.std.proofs.Common.{◌≡◌, ℕ, ℤ, List, [], length, replicate, Option, Some, None, is_some, true, unwrap_or, refl, sym, ap, ◌∙◌, subst}
use Rattle.std.proofs.lemmas.Option.{get_or_from_slice_get}
use Rattle.std.proofs.lemmas.List.{length-replicate}
use Rattle.job_compiler.specs.Compilation.{Compilation, IsMapped}
use Rattle.nested_jobs.specs.Marks.{Free}
use Rattle.param_resolver.specs.declared.level_set.LevelSet.{LevelSet}
use Rattle.pisdf_model.specs.declared.graph.Graph.{Graph}
use Rattle.worker_mapping.specs.declared.mapping.Mapping.{Mapping}
use Rattle.pisdf_meaning.specs.declared.firing.Configured.{Configured}
use Rattle.pisdf_meaning.specs.declared.firing.Firing.{Firing}
use Rattle.job_rules.specs.Doing as doing
use Rattle.job_rules.specs.Items.{Prepared, edges_in, graph_of, no_graph, nodes_in}
use Rattle.job_rules.specs.Meant.{IsFit}
use Rattle.job_rules.specs.Words as words
use Rattle.job_preparing.specs.CompileTasks.{IsReadyWith, schedule_of}
use Rattle.job_preparing.proofs.Compiled.{mapped_so, nodes_are, schedules_here}
use Rattle.job_preparing.specs.View as preparing
use Rattle.job_preparing.specs.View.{ConfiguringView}
use Rattle.graph_firing.specs.Nodes.Parts.{prepared_with}
use Rattle.graph_firing.specs.Nodes.View as running
use Rattle.graph_firing.specs.Nodes.View.{RunningView}
use Rattle.graph_firing.specs.Running.{RunsFor}

some_left : (o : Option (List Configured)) → is_some o ≡ true → o ≡ Some (unwrap_or o [])
some_left None is = absurd (cc)
some_left (Some left) is = refl

-- what a compilation answers
pub schedules_so : (graphs : List Graph) (workers : ℕ) (firing : Firing) (left : List Configured) (c : Compilation) (set : LevelSet) (values : List ℤ) → IsReadyWith graphs workers firing left c set values → IsFit graphs firing → doing.IsCompiled graphs firing left (words.Schedules (schedule_of c))
schedules_so graphs workers firing left c set values ready fit =
    schedules_here graphs workers firing left c set values ready (fit.here ∙ ap Some (sym (get_or_from_slice_get graphs firing.graph fit.g no_graph fit.here)))

-- the nodes are those of the job
module _ (c : ConfiguringView) (workers : ℕ) (compilation : Compilation) (set : LevelSet) (values : List ℤ) (ready : preparing.IsReady c)
    (so : IsReadyWith c.graphs.graphs workers c.firing (preparing.left_by c) compilation set values) (r : RunningView)
    (graphs_are : r.graphs ≡ c.graphs) (firing_is : r.firing ≡ c.firing) (prepared_is : r.prepared ≡ prepared_with (preparing.left_by c) compilation)
    (workers_are : r.workers ≡ compilation.workers) (mapping_is : r.mapping ≡ compilation.mapping)
    (marks_are : r.marks ≡ replicate (length (running.nodes_of r)) Free) (lent_are : r.lent ≡ replicate (length (running.nodes_of r)) None) where
  same_nodes : running.nodes_of r ≡ nodes_in c.graphs.graphs (preparing.graph_in c) c.firing r.prepared
  same_nodes = λ i. nodes_in (graphs_are i).graphs (graph_of (graphs_are i).graphs (firing_is i)) (firing_is i) r.prepared

  pub many : length (running.nodes_of r) ≡ length compilation.graph.nodes
  many =
      let G = c.graphs.graphs in
      let g = preparing.graph_in c in
      ap length (same_nodes ∙ (ap (nodes_in G g c.firing) prepared_is ∙ sym (nodes_are G workers c.firing (preparing.left_by c) compilation set values so)))

  pub runs_for : RunsFor c workers r
  runs_for =
      let G = c.graphs.graphs in
      let g = preparing.graph_in c in
      let M : Prepared → Type 0 = λ p. IsMapped record { nodes = nodes_in G g c.firing p; edges = edges_in G g c.firing p; ranks = [] } workers compilation.mapping in
      let N : Mapping → Type 0 = λ m. IsMapped record { nodes = nodes_in G g c.firing r.prepared; edges = edges_in G g c.firing r.prepared; ranks = [] } workers m in
      record {
        graphs_are = graphs_are;
        workers_are = workers_are ∙ so.workers_are;
        firing_is = firing_is;
        left_is = some_left (preparing.left_if_ready c) ready ∙ ap (λ (p : Prepared). Some p.left) (sym prepared_is);
        marks_many = ap length marks_are ∙ length-replicate (length (running.nodes_of r)) Free ∙ ap length same_nodes;
        lent_many = ap length lent_are ∙ length-replicate (length (running.nodes_of r)) None ∙ ap length same_nodes;
        mapped = subst N (sym mapping_is) (subst M (sym prepared_is) (mapped_so G workers c.firing (preparing.left_by c) compilation set values so));
      }
