use Rattle.std.proofs.Common.{[], ◌∙◌}
use Rattle.graph_firing.proofs.OfNodes.WrittenOuts.{write_next}
use Rattle.std.proofs.lemmas.List.{get_or_default}
use Rattle.graph_firing.proofs.nodes.writing.write_outs.Goals as goal

pub loop-port-preserved : goal.loop-port-preserved
loop-port-preserved c =
    let p = c.loop-port.port in
    let below = c.loop-port-test.true in
    let w_is = c.copy_from_slice.ensures.after ∙ c.items-tokens.ensures ∙ c.index-outs-port.is ∙ get_or_default c.args.outs.now p c.index-outs-port.result [] below in
    write_next c.loop-port.frame c.args.frame.now c.args.outs.now p c.copy_from_slice.new.self c.loop-port.invariant below c.requires.many w_is (c.requires.long p below)
