use Rattle.std.proofs.Common.{◌≡◌, ◌≤◌, None, replicate, vec_len, vec_capacity}
use Rattle.job_calls.proofs.places.no_frames.Given as goal

abbrev pub invariant-loop-n : goal.invariant-loop-n
invariant-loop-n l = record { items : l.frames.items ≡ replicate l._n None; len : vec_len l.frames ≡ l._n; room : l.count ≤ vec_capacity l.frames }
