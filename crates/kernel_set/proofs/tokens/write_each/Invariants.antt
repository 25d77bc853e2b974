use Rattle.kernel_set.proofs.Steps.{WrittenTo}
use Rattle.kernel_set.proofs.tokens.write_each.Given as goal

abbrev pub invariant-loop-i : goal.invariant-loop-i
invariant-loop-i g l = WrittenTo (g.M.TokenMap.image l.m) l.x l.i l.o
