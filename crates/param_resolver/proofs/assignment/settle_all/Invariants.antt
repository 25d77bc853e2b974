use Rattle.param_resolver.proofs.Settling.{SettlesBelow}
use Rattle.param_resolver.proofs.assignment.settle_all.Given as goal

abbrev pub invariant-loop-place : goal.invariant-loop-place
invariant-loop-place l = SettlesBelow l.params l.supplied l.initial.found l.found l.numbers l.place
