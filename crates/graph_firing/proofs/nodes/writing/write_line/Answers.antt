use Rattle.std.proofs.Common.{arith, ◌≡◌, length, get_or, ap, ◌∙◌}
use Rattle.graph_firing.proofs.OfNodes.WrittenOuts.{line_more}
use Rattle.graph_firing.proofs.nodes.writing.write_line.Goals as goal

pub slice_bounds-copy_from_slice-end : goal.slice_bounds-copy_from_slice-end
slice_bounds-copy_from_slice-end c =
    let more = line_more c.args.lists.now c.loop-list.list-index c.list-item.result (let t = c.loop-list-test.true in omega arith) in
    let here : length c.items-tokens.result.now ≡ length (get_or c.args.lists.now c.loop-list.list-index c.list-item.result) = ap length c.items-tokens.ensures ∙ ap length c.list-item.is in
    let at = c.loop-list.invariant.at in
    let long = c.loop-list.auto.to in
    omega (arith, c.requires)
