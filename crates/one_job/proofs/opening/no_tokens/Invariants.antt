use Rattle.std.proofs.Common.{◌≡◌, [], replicate}
use Rattle.one_job.proofs.opening.no_tokens.Given as goal

abbrev pub invariant-loop-n : goal.invariant-loop-n
invariant-loop-n l = l.lists.items ≡ replicate l._n []
