use Rattle.param_resolver.proofs.Counted.{all_feed}
use Rattle.param_resolver.proofs.numbering.fed_inputs.Goals as goal

pub returns : goal.returns
returns c = all_feed c.args.graph.now c.items-fifo-items.result.now c.loop-fifo.fifo-index c.loop-fifo.fed.items c.items-fifo-items.ensures c.loop-fifo-test.false c.loop-fifo.invariant
