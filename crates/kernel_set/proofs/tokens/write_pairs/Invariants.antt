use Rattle.std.specs.Prelude.{zip}
use Rattle.kernel_set.proofs.Steps.{WrittenTo}
use Rattle.kernel_set.proofs.tokens.write_pairs.Given as goal

abbrev pub invariant-loop-i : goal.invariant-loop-i
invariant-loop-i g l = WrittenTo (λ p. g.M.PairMap.image l.m p.0 p.1) (zip l.x l.z) l.i l.o
