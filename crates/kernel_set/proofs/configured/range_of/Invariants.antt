use Rattle.std.proofs.Common.{◌≡◌, take}
use Rattle.std.specs.Prelude.{fold}
use Rattle.std.specs.Int.{int_max, int_min}
use Rattle.kernel_gate.specs.Tokens.{token}
use Rattle.kernel_set.proofs.configured.range_of.Given as goal

abbrev pub invariant-loop-t : goal.invariant-loop-t
invariant-loop-t l = record {
  high : l.high ≡ fold int_max (token l.x 0) (take l.t-index l.x);
  low : l.low ≡ fold int_min (token l.x 0) (take l.t-index l.x);
}
