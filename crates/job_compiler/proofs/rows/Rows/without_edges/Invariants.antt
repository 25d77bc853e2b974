use Rattle.std.proofs.Common.{◌≡◌, ℕ, ◌+◌, length, map, take, replicate}
use Rattle.std.specs.Prelude.{None, slice_index}
use Rattle.job_compiler.specs.Rows.{rows_in, spans_of, KeepsStarts}
use Rattle.job_compiler.proofs.rows.Rows.without_edges.Given as goal

abbrev pub invariant-loop-count : goal.invariant-loop-count
invariant-loop-count l = record {
  keeps : KeepsStarts l.ports.items l.starts.items;
  rows : rows_in l.ports.items (spans_of l.starts.items) ≡ map (λ (count : ℕ). replicate count None) (take l.count-index l.counts);
  long : length l.starts.items ≡ l.count-index + 1;
  last : slice_index l.starts.items l.count-index ≡ length l.ports.items;
}
