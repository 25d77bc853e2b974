use Rattle.std.proofs.Common.{◌≡◌, ◌≤◌, map, replicate, vec_len, vec_capacity}
use Rattle.one_job.specs.Marks.{Free}
use Rattle.one_job.specs.Staged.{mark_of}
use Rattle.one_job.proofs.opening.free_stages.Given as goal

abbrev pub invariant-loop-n : goal.invariant-loop-n
invariant-loop-n l = record { marks : map mark_of l.stages.items ≡ replicate l._n Free; len : vec_len l.stages ≡ l._n; room : l.count ≤ vec_capacity l.stages }
