use Rattle.param_resolver.proofs.Acts.{Acts}
use Rattle.param_resolver.proofs.acting.acting_of.Given as goal

abbrev pub invariant-loop-number : goal.invariant-loop-number
invariant-loop-number l = Acts l.graphs l.graph l.values l.number l.acting.places.items l.acting.args.items l.acting.ins.items l.acting.outs.items l.acting.children.items
