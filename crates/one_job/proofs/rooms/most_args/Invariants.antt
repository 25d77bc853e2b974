use Rattle.std.proofs.Common.{ℕ, ◌<◌, ◌≤◌, [], length}
use Rattle.std.specs.Prelude.{slice_index_or}
use Rattle.one_job.proofs.rooms.most_args.Given as goal

abbrev pub invariant-loop-list : goal.invariant-loop-list
invariant-loop-list l = record {
  each : (a : ℕ) → a < l.list-index → length (slice_index_or l.args a []) ≤ l.most;
  least : (m : ℕ) → ((a : ℕ) → length (slice_index_or l.args a []) ≤ m) → l.most ≤ m;
}
