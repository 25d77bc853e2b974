use Rattle.std.proofs.Common.{◌∷◌, [], map, get_or, take, slice_index, arith}
use Rattle.std.proofs.lemmas.List.{map_more}
use Rattle.worker_mapping.proofs.Lists.{greatest-append}
use Rattle.worker_mapping.proofs.priority.most_of.Goals as goal

pub loop-node-preserved : goal.loop-node-preserved
loop-node-preserved c =
    let more = map_more (slice_index c.args.priority.now) c.args.nodes.now c.loop-node.node-index 0 c.loop-node-test.true in
    let split = greatest-append (map (slice_index c.args.priority.now) (take c.loop-node.node-index c.args.nodes.now)) (slice_index c.args.priority.now (get_or c.args.nodes.now c.loop-node.node-index 0) ∷ []) in
    let before = c.loop-node.invariant in
    let now = c.max-most.ensures in
    rw more (omega arith)
