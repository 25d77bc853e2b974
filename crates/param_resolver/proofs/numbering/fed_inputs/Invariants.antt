use Rattle.param_resolver.proofs.Counted.{Feeds}
use Rattle.param_resolver.proofs.numbering.fed_inputs.Given as goal

abbrev pub invariant-loop-fifo : goal.invariant-loop-fifo
invariant-loop-fifo l = Feeds l.graph l.fifo-index l.fed.items
