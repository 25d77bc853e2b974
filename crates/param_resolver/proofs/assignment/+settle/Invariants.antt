use Rattle.std.proofs.Common.{take}
use Rattle.param_resolver.specs.Settled.{references_of}
use Rattle.param_resolver.proofs.Ranks.{rank}
use Rattle.param_resolver.proofs.Settling.{Settles}
use Rattle.param_resolver.proofs.assignment.+settle.Given as goal

abbrev pub decreases-settle : goal.decreases-settle
decreases-settle l = rank (references_of l.params.now) l.place

abbrev pub invariant-loop-other : goal.invariant-loop-other
invariant-loop-other l = Settles l.params l.supplied l.initial.found l.found l.numbers (take l.other-index l.other-items)
