use Rattle.param_resolver.proofs.Supplying.{GivesSoFar}
use Rattle.param_resolver.proofs.supplied.supplied_to.Given as goal

abbrev pub invariant-loop-param : goal.invariant-loop-param
invariant-loop-param l = GivesSoFar l.params l.inherited l.chosen l.param-index l.inherited_before l.chosen_before l.supplied.items
