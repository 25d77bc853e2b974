-- The first of what there are too many of, graph by graph.
use Rattle.std.proofs.Common.{◌≡◌, ℕ, ◌+◌, ◌<◌, ◌≤◌, List, [], length, get_or, true, subst, arith}
use Rattle.std.specs.Prelude.{nat_le}
use Rattle.std.proofs.lemmas.Bool.Decides.{nat_tests}
use Rattle.pisdf_model.specs.Count.{count_faults, graph_counts}
use Rattle.pisdf_model.specs.Details.{Refuses, of_each}
use Rattle.pisdf_model.specs.declared.counting.Counted.{Counted}
use Rattle.pisdf_model.specs.declared.detail_fault.DetailFault.{DetailFault}
use Rattle.pisdf_model.specs.declared.graph.Graph.{Graph}
use Rattle.pisdf_model.specs.declared.graph.Graphs.{Graphs}
use Rattle.pisdf_model.proofs.Walking.{Stands, goes_on, refuses_here}

module _ (graphs : Graphs) (all : List Graph) (is_all : all ≡ graphs.graphs) (n : ℕ) (g : Graph) (inside : n < length all) (is : g ≡ get_or all n g) (so_far : Stands 0 (graph_counts graphs.graphs) n graphs.graphs) where
  inside_graphs : n < length graphs.graphs
  inside_graphs = subst (λ (gs : List Graph). n < length gs) is_all inside

  is_of_graphs : g ≡ get_or graphs.graphs n g
  is_of_graphs = subst (λ (gs : List Graph). g ≡ get_or gs n g) is_all is

  pub count_refused : (fault : DetailFault Counted) → length all ≤ 32 → Refuses (graph_counts all n g) fault → Refuses (count_faults graphs) fault
  count_refused fault few refused =
      let within : nat_le (length graphs.graphs) 32 ≡ true = subst (λ (gs : List Graph). nat_le (length gs) 32 ≡ true) is_all (grind (arith, nat_tests, few)) in
      let here : Refuses (of_each (graph_counts graphs.graphs) graphs.graphs) fault = refuses_here (graph_counts graphs.graphs) n graphs.graphs g fault inside_graphs is_of_graphs (subst (λ (gs : List Graph). Refuses (graph_counts gs n g) fault) is_all refused) so_far in
      rw within here

  pub count_goes_on : graph_counts all n g ≡ [] → Stands 0 (graph_counts graphs.graphs) (n + 1) graphs.graphs
  count_goes_on none =
      let at_n : 0 + n ≡ n = omega arith in
      goes_on 0 (graph_counts graphs.graphs) n graphs.graphs g inside_graphs is_of_graphs (rw at_n (subst (λ (gs : List Graph). graph_counts gs n g ≡ []) is_all none)) so_far
