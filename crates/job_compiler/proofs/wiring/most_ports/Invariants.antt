use Rattle.std.proofs.Common.{ℕ, ◌<◌, ◌≤◌, length}
use Rattle.job_compiler.specs.Rows.{row_of}
use Rattle.job_compiler.proofs.wiring.most_ports.Given as goal

abbrev pub invariant-loop-n : goal.invariant-loop-n
invariant-loop-n l = record {
  some : 1 ≤ l.most;
  each : (m : ℕ) → m < l.n → length (row_of l.rows m) ≤ l.most;
  least : (m : ℕ) → 1 ≤ m → ((n : ℕ) → n < length l.rows → length (row_of l.rows n) ≤ m) → l.most ≤ m;
}
