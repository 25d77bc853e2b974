use Rattle.std.proofs.Common.{◌≡◌, ℕ, List, length, sym, ap, ◌∙◌, arith}
use Rattle.param_resolver.specs.Numbering.{acting}
use Rattle.sdf_level.specs.declared.node.Node.{Node}
use Rattle.sdf_level.specs.declared.node.Node.TheVariants as node
use Rattle.job_flow.specs.Graphs.{node_at}
use Rattle.graph_firing.specs.Nodes.Invariants.{fixed_of}
use Rattle.graph_firing.specs.Nodes.Parts.{Fixed, fired, job_in, values_of}
use Rattle.graph_firing.proofs.OfNodes.NodeTasks.{nodes_are}
use Rattle.graph_firing.proofs.OfNodes.OfferedNodes.{firing_inside}
use Rattle.job_preparing.specs.declared.compiling.ReadyLevel.{ReadyLevel}
use Rattle.graph_firing.proofs.nodes.running.Running.step.Goals as goal

pub bounds-items-actor : goal.bounds-items-actor
bounds-items-actor c =
    let i = c.self.inside in
    let f : Fixed = fixed_of i in
    let at : node_at (job_in f).nodes c.args.node ≡ node.Firing c.in-Firing.actor c.in-Firing.turn =
    ap (λ (l : List Node). node_at l c.args.node) (sym (nodes_are f i.stages i.held.items i.ending.traces.items i.job c.self.invariant)) ∙ sym c.node.ensures ∙ c.in-Firing.is in
    let inside = (firing_inside f i.stages i.held.items i.ending.traces.items i.job c.self.invariant c.graphs_numbered.ensures.all c.graphs_numbered.ensures.in_order c.args.node c.in-Firing.actor c.in-Firing.turn at).actor in
    let long : length c.items.result.now ≡ length (acting (fired f)) =
    ap (λ (l : List ℕ). length l) (c.items.ensures ∙ ap (λ (l : ReadyLevel). l.made.set.places) c.deref.ensures ∙ c.self.invariant.parts.set_is.places) ∙ (c.level_by_actor.ensures.many f.graphs.graphs (fired f) (values_of f)).places in
    omega arith
