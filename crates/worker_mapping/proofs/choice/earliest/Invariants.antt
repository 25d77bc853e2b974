use Rattle.std.proofs.Common.{ℕ, ◌<◌, ◌≤◌, slice_index}
use Rattle.worker_mapping.proofs.choice.earliest.Given as goal

-- the least so far
abbrev pub invariant-loop-w : goal.invariant-loop-w
invariant-loop-w l = record {
  there : l.best < l.w;
  least : (v : ℕ) → v < l.w → slice_index l.free l.best ≤ slice_index l.free v;
  first : (v : ℕ) → v < l.best → slice_index l.free l.best < slice_index l.free v;
}
