use Rattle.std.proofs.Common.{◌≡◌, drop}
use Rattle.kernel_gate.specs.Tokens.{running}
use Rattle.kernel_set.proofs.tokens.fold.Given as goal

abbrev pub invariant-loop-t : goal.invariant-loop-t
invariant-loop-t g l = running (g.M.PairMap.image l.m) l.all (drop l.t-index l.x) ≡ running (g.M.PairMap.image l.m) l.start l.x
