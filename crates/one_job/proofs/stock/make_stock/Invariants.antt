use Rattle.std.proofs.Common.{◌≡◌, ℕ, ◌<◌, ◌≤◌, [], length}
use Rattle.std.specs.Prelude.{None, slice_index_or}
use Rattle.job_flow.specs.Graphs.{node_at}
use Rattle.one_job.specs.Opening.{stored_in}
use Rattle.one_job.specs.Ports.{port_size, row_of}
use Rattle.one_job.specs.Stock.{IsStock}
use Rattle.one_job.proofs.stock.make_stock.Given as goal

-- the nodes so far have what lies ready for them, and what the others read lies still in the lists
abbrev pub invariant-loop-n : goal.invariant-loop-n
invariant-loop-n l = record {
  long : length l.stock.items ≡ l.n;
  each : (m : ℕ) → m < l.n
      → IsStock (node_at l.nodes m) (stored_in l.fn.sources l.fn.stored (node_at l.nodes m)) (port_size l.edges (slice_index_or (row_of l.entering m) 0 None)) (slice_index_or l.stock.items m []);
  rest : (m : ℕ) → l.n ≤ m → m < length l.nodes → stored_in l.sources l.stored (node_at l.nodes m) ≡ stored_in l.fn.sources l.fn.stored (node_at l.nodes m);
}
