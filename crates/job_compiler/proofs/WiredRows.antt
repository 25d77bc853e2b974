-- The rows in which the ends of a graph's edges are entered are those of its ports.
use Rattle.std.proofs.Common.{◌≡◌, ℕ, ◌<◌, List, length, map, ap, ◌∙◌, subst}
use Rattle.std.specs.Prelude.{Option}
use Rattle.std.specs.List.{range_with_len}
use Rattle.sdf_level.specs.View.{LevelView}
use Rattle.sdf_level.specs.declared.single_rate.SingleRate.{SingleRate}
use Rattle.job_flow.specs.Graphs.{node_at}
use Rattle.job_compiler.specs.Ends.{head_of, tail_of, ends_at, ports_with, AreEndCounts, in_count, out_count, AreCounts, AreRows}
use Rattle.job_compiler.specs.Wired.{entering, leaving}
use Rattle.job_compiler.proofs.EndRows.{rows_are}

pub entering_is : (level : LevelView) (graph : SingleRate) (into ins : List ℕ) (rows : List (List (Option ℕ))) → AreEndCounts (length graph.nodes) (map head_of graph.edges) into
    → AreCounts (in_count level.links) graph.nodes into ins → AreRows ins (map head_of graph.edges) (length (map head_of graph.edges)) rows → rows ≡ entering level graph
unfolding entering
entering_is level graph into ins rows into_are ins_are are =
    let count_of : ℕ → ℕ = λ n. in_count level.links (node_at graph.nodes n) (ends_at n (map head_of graph.edges)) in
    rows_are (map head_of graph.edges) ins rows are count_of (λ n below.
    let inside : n < length graph.nodes = subst (λ k. n < k) ins_are.one_each below in
    ins_are.each n inside ∙ ap (in_count level.links (node_at graph.nodes n)) (into_are.each n inside))
    ∙ ap (λ k. map (λ n. ports_with (map head_of graph.edges) n (count_of n)) (range_with_len 0 k)) ins_are.one_each

pub leaving_is : (level : LevelView) (graph : SingleRate) (from outs : List ℕ) (rows : List (List (Option ℕ))) → AreEndCounts (length graph.nodes) (map tail_of graph.edges) from
    → AreCounts (out_count level.links) graph.nodes from outs → AreRows outs (map tail_of graph.edges) (length (map tail_of graph.edges)) rows → rows ≡ leaving level graph
unfolding leaving
leaving_is level graph from outs rows from_are outs_are are =
    let count_of : ℕ → ℕ = λ n. out_count level.links (node_at graph.nodes n) (ends_at n (map tail_of graph.edges)) in
    rows_are (map tail_of graph.edges) outs rows are count_of (λ n below.
    let inside : n < length graph.nodes = subst (λ k. n < k) outs_are.one_each below in
    outs_are.each n inside ∙ ap (out_count level.links (node_at graph.nodes n)) (from_are.each n inside))
    ∙ ap (λ k. map (λ n. ports_with (map tail_of graph.edges) n (count_of n)) (range_with_len 0 k)) outs_are.one_each
