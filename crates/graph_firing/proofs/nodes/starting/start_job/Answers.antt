use Rattle.std.proofs.Common.{◌≡◌, List, length, sym, ap, ◌∙◌, arith}
use Rattle.std.proofs.lemmas.List.{length-replicate}
use Rattle.job_compiler.specs.Compilation.{Compilation}
use Rattle.sdf_level.specs.declared.node.Node.{Node}
use Rattle.sdf_level.specs.declared.single_rate.SingleRate.{SingleRate}
use Rattle.graph_firing.specs.declared.nodes.frames.Held.{Held}
use Rattle.graph_firing.specs.declared.nodes.frames.Held.TheVariants.{Nothing}
use Rattle.graph_firing.proofs.nodes.starting.start_job.Goals as goal

pub returns-in-Ok-clause-room : goal.returns-in-Ok-clause-room
returns-in-Ok-clause-room c = λ n below child.
    let nodes_are : c.items-nodes.result.now ≡ c.in_ok-job.job.compilation.graph.nodes = c.items-nodes.ensures ∙ ap (λ (x : SingleRate). x.nodes) (c.graph.ensures.value ∙ ap (λ (x : Compilation). x.graph) (c.deref.ensures ∙ sym c.in_ok-job.ensures.compilation)) in
    let many : length c.items-nodes.result.now ≡ length c.in_ok-job.job.compilation.graph.nodes = ap (λ (l : List Node). length l) nodes_are in
    let long : length c.nothing_held.result.items ≡ c.room_needed-needed.result = ap (λ (l : List Held). length l) c.nothing_held.ensures ∙ length-replicate c.room_needed-needed.result Nothing in
    let place = c.room_needed-needed.ensures.all n (omega arith) child in
    omega arith
