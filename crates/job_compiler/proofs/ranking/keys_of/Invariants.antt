use Rattle.std.proofs.Common.{◌≡◌, ℕ, ◌<◌, length, slice_index}
use Rattle.job_compiler.specs.Ranked.{IsKey}
use Rattle.job_compiler.proofs.ranking.keys_of.Given as goal

abbrev pub invariant-loop-n : goal.invariant-loop-n
invariant-loop-n l = record {
  long : length l.keys.items ≡ l.n;
  each : (m : ℕ) → m < l.n → IsKey (slice_index l.priorities m) m (slice_index l.keys.items m);
}
