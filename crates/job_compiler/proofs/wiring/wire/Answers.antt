use Rattle.std.proofs.Common.{◌≡◌, length, map, refl, sym, ap, ◌∙◌, subst}
use Rattle.sdf_level.specs.Invariants.{IsLevel}
use Rattle.sdf_level.specs.View.{LevelView}
use Rattle.job_compiler.specs.Ends.{head_of, tail_of, AreEndCounts, in_count, out_count}
use Rattle.job_compiler.proofs.JobWires.{heads_below, tails_below, have_ins, have_outs, wired_of}
use Rattle.job_compiler.proofs.NoTokens.{given, given_fit, held, held_fit}
use Rattle.job_compiler.proofs.StartWires.{ends_as, counts_as, rows_as, have_as, below_as}
use Rattle.job_compiler.proofs.WiredRows.{entering_is, leaving_is}
use Rattle.job_compiler.proofs.wiring.wire.Goals as goal

pub end_counts-requires : goal.end_counts-requires
end_counts-requires c =
    let level = c.args.level.now in
    let graph = c.args.graph.now in
    let nodes_are : c.items-nodes.result.now ≡ graph.nodes = c.items-nodes.ensures in
    let edges_are : c.items-edges.result.now ≡ graph.edges = c.items-edges.ensures in
    let links_are : c.items-links.result.now ≡ level.links = c.items-links.ensures ∙ ap (λ (l : LevelView). l.links) c.level.view_is in
    let law = c.edges_have_ports.ensures.ports in
    let used = c.edges_have_ports.ensures.used in
    let at_nodes = c.graphs_numbered.ensures.ports in
    let kept = subst IsLevel c.level.view_is c.level.invariant in
    let heads_are : c.in_ok-heads.heads.items ≡ map head_of graph.edges = c.in_ok-heads.ensures ∙ ap (map head_of) edges_are in
    below_as (length c.items-nodes.result.now) (length graph.nodes) c.deref.result.now (map head_of graph.edges) (ap length nodes_are) (c.deref.ensures.value ∙ heads_are) (heads_below law used at_nodes level graph kept c.requires (given level.sources) (held level.links) (given_fit level.sources) (held_fit level.links))

pub end_counts-requires-2 : goal.end_counts-requires-2
end_counts-requires-2 c =
    let level = c.args.level.now in
    let graph = c.args.graph.now in
    let nodes_are : c.items-nodes.result.now ≡ graph.nodes = c.items-nodes.ensures in
    let edges_are : c.items-edges.result.now ≡ graph.edges = c.items-edges.ensures in
    let links_are : c.items-links.result.now ≡ level.links = c.items-links.ensures ∙ ap (λ (l : LevelView). l.links) c.level.view_is in
    let law = c.edges_have_ports.ensures.ports in
    let used = c.edges_have_ports.ensures.used in
    let at_nodes = c.graphs_numbered.ensures.ports in
    let kept = subst IsLevel c.level.view_is c.level.invariant in
    let tails_are : c.in_ok-tails.tails.items ≡ map tail_of graph.edges = c.in_ok-tails.ensures ∙ ap (map tail_of) edges_are in
    below_as (length c.items-nodes.result.now) (length graph.nodes) c.deref-2.result.now (map tail_of graph.edges) (ap length nodes_are) (c.deref-2.ensures.value ∙ tails_are) (tails_below law used at_nodes level graph kept c.requires (given level.sources) (held level.links) (given_fit level.sources) (held_fit level.links))

pub enter-requires-clause-rows : goal.enter-requires-clause-rows
enter-requires-clause-rows c =
    let level = c.args.level.now in
    let graph = c.args.graph.now in
    let nodes_are : c.items-nodes.result.now ≡ graph.nodes = c.items-nodes.ensures in
    let edges_are : c.items-edges.result.now ≡ graph.edges = c.items-edges.ensures in
    let links_are : c.items-links.result.now ≡ level.links = c.items-links.ensures ∙ ap (λ (l : LevelView). l.links) c.level.view_is in
    let law = c.edges_have_ports.ensures.ports in
    let used = c.edges_have_ports.ensures.used in
    let at_nodes = c.graphs_numbered.ensures.ports in
    let kept = subst IsLevel c.level.view_is c.level.invariant in
    let heads_are : c.in_ok-heads.heads.items ≡ map head_of graph.edges = c.in_ok-heads.ensures ∙ ap (map head_of) edges_are in
    let into_are = ends_as (length c.items-nodes.result.now) (length graph.nodes) c.deref.result.now (map head_of graph.edges) c.in_ok-into.into.items c.in_ok-into.into.items (ap length nodes_are) (c.deref.ensures.value ∙ heads_are) refl c.in_ok-into.ensures in
    let ins_are = counts_as in_count c.items-links.result.now level.links c.items-nodes.result.now graph.nodes c.deref-3.result.now c.in_ok-into.into.items c.in_ok-ins.ins.items c.in_ok-ins.ins.items links_are nodes_are c.deref-3.ensures.value refl c.in_ok-ins.ensures in
    have_as c.deref-5.result.now c.in_ok-ins.ins.items c.deref-6.result.now (map head_of graph.edges) c.deref-5.ensures.value (c.deref-6.ensures.value ∙ heads_are)
    (have_ins law used at_nodes level graph kept c.requires (given level.sources) (held level.links) (given_fit level.sources) (held_fit level.links) c.in_ok-into.into.items c.in_ok-ins.ins.items into_are ins_are)

pub enter-requires-2-clause-rows : goal.enter-requires-2-clause-rows
enter-requires-2-clause-rows c =
    let level = c.args.level.now in
    let graph = c.args.graph.now in
    let nodes_are : c.items-nodes.result.now ≡ graph.nodes = c.items-nodes.ensures in
    let edges_are : c.items-edges.result.now ≡ graph.edges = c.items-edges.ensures in
    let links_are : c.items-links.result.now ≡ level.links = c.items-links.ensures ∙ ap (λ (l : LevelView). l.links) c.level.view_is in
    let law = c.edges_have_ports.ensures.ports in
    let used = c.edges_have_ports.ensures.used in
    let at_nodes = c.graphs_numbered.ensures.ports in
    let kept = subst IsLevel c.level.view_is c.level.invariant in
    let heads_are : c.in_ok-heads.heads.items ≡ map head_of graph.edges = c.in_ok-heads.ensures ∙ ap (map head_of) edges_are in
    let tails_are : c.in_ok-tails.tails.items ≡ map tail_of graph.edges = c.in_ok-tails.ensures ∙ ap (map tail_of) edges_are in
    let into_are = ends_as (length c.items-nodes.result.now) (length graph.nodes) c.deref.result.now (map head_of graph.edges) c.in_ok-into.into.items c.in_ok-into.into.items (ap length nodes_are) (c.deref.ensures.value ∙ heads_are) refl c.in_ok-into.ensures in
    let from_are = ends_as (length c.items-nodes.result.now) (length graph.nodes) c.deref-2.result.now (map tail_of graph.edges) c.in_ok-from.from.items c.in_ok-from.from.items (ap length nodes_are) (c.deref-2.ensures.value ∙ tails_are) refl c.in_ok-from.ensures in
    let ins_are = counts_as in_count c.items-links.result.now level.links c.items-nodes.result.now graph.nodes c.deref-3.result.now c.in_ok-into.into.items c.in_ok-ins.ins.items c.in_ok-ins.ins.items links_are nodes_are c.deref-3.ensures.value refl c.in_ok-ins.ensures in
    let outs_are = counts_as out_count c.items-links.result.now level.links c.items-nodes.result.now graph.nodes c.deref-4.result.now c.in_ok-from.from.items c.in_ok-outs.outs.items c.in_ok-outs.outs.items links_are nodes_are c.deref-4.ensures.value refl c.in_ok-outs.ensures in
    have_as c.deref-7.result.now c.in_ok-outs.outs.items c.deref-8.result.now (map tail_of graph.edges) c.deref-7.ensures.value (c.deref-8.ensures.value ∙ tails_are)
    (have_outs law used at_nodes level graph kept c.requires (given level.sources) (held level.links) (given_fit level.sources) (held_fit level.links) c.in_ok-into.into.items c.in_ok-ins.ins.items into_are ins_are c.in_ok-from.from.items c.in_ok-outs.outs.items from_are outs_are)

pub returns : goal.returns
returns c =
    let level = c.args.level.now in
    let graph = c.args.graph.now in
    let nodes_are : c.items-nodes.result.now ≡ graph.nodes = c.items-nodes.ensures in
    let edges_are : c.items-edges.result.now ≡ graph.edges = c.items-edges.ensures in
    let links_are : c.items-links.result.now ≡ level.links = c.items-links.ensures ∙ ap (λ (l : LevelView). l.links) c.level.view_is in
    let law = c.edges_have_ports.ensures.ports in
    let used = c.edges_have_ports.ensures.used in
    let at_nodes = c.graphs_numbered.ensures.ports in
    let kept = subst IsLevel c.level.view_is c.level.invariant in
    let heads_are : c.in_ok-heads.heads.items ≡ map head_of graph.edges = c.in_ok-heads.ensures ∙ ap (map head_of) edges_are in
    let tails_are : c.in_ok-tails.tails.items ≡ map tail_of graph.edges = c.in_ok-tails.ensures ∙ ap (map tail_of) edges_are in
    let into_are = ends_as (length c.items-nodes.result.now) (length graph.nodes) c.deref.result.now (map head_of graph.edges) c.in_ok-into.into.items c.in_ok-into.into.items (ap length nodes_are) (c.deref.ensures.value ∙ heads_are) refl c.in_ok-into.ensures in
    let from_are = ends_as (length c.items-nodes.result.now) (length graph.nodes) c.deref-2.result.now (map tail_of graph.edges) c.in_ok-from.from.items c.in_ok-from.from.items (ap length nodes_are) (c.deref-2.ensures.value ∙ tails_are) refl c.in_ok-from.ensures in
    let ins_are = counts_as in_count c.items-links.result.now level.links c.items-nodes.result.now graph.nodes c.deref-3.result.now c.in_ok-into.into.items c.in_ok-ins.ins.items c.in_ok-ins.ins.items links_are nodes_are c.deref-3.ensures.value refl c.in_ok-ins.ensures in
    let outs_are = counts_as out_count c.items-links.result.now level.links c.items-nodes.result.now graph.nodes c.deref-4.result.now c.in_ok-from.from.items c.in_ok-outs.outs.items c.in_ok-outs.outs.items links_are nodes_are c.deref-4.ensures.value refl c.in_ok-outs.ensures in
    let in_rows = rows_as c.deref-5.result.now c.in_ok-ins.ins.items c.deref-6.result.now (map head_of graph.edges) c.in_ok-entering.entering c.deref-5.ensures.value (c.deref-6.ensures.value ∙ heads_are) c.in_ok-entering.ensures in
    let out_rows = rows_as c.deref-7.result.now c.in_ok-outs.outs.items c.deref-8.result.now (map tail_of graph.edges) c.in_ok-leaving.leaving c.deref-7.ensures.value (c.deref-8.ensures.value ∙ tails_are) c.in_ok-leaving.ensures in
    record {
      entering_are = entering_is level graph c.in_ok-into.into.items c.in_ok-ins.ins.items c.in_ok-entering.entering into_are ins_are in_rows;
      leaving_are = leaving_is level graph c.in_ok-from.from.items c.in_ok-outs.outs.items c.in_ok-leaving.leaving from_are outs_are out_rows;
      into_are = subst (AreEndCounts (length graph.nodes) (map head_of graph.edges)) (sym c.new.ensures) into_are;
      inputs_are = c.most_ports-inputs.ensures;
      outputs_are = c.most_ports-outputs.ensures;
      wire_jobs = λ sources stored sources_fit stored_fit.
          wired_of law used at_nodes level graph kept c.requires sources stored sources_fit stored_fit c.in_ok-into.into.items c.in_ok-ins.ins.items into_are ins_are c.in_ok-from.from.items c.in_ok-outs.outs.items from_are outs_are c.in_ok-entering.entering c.in_ok-leaving.leaving in_rows out_rows;
    }
