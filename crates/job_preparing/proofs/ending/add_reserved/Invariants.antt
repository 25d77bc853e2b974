use Rattle.std.proofs.Common.{◌≡◌, ◌++◌, take, vec_capacity}
use Rattle.job_preparing.proofs.ending.add_reserved.Given as goal

abbrev pub invariant-loop-token : goal.invariant-loop-token
invariant-loop-token l = record {
  items : l.line.items ≡ l.initial.line.items ++ take l.token-index l.tokens;
  capacity : vec_capacity l.line ≡ vec_capacity l.initial.line;
}
