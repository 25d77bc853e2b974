use Rattle.std.proofs.Common.{◌≡◌, take}
use Rattle.std.specs.Prelude.{sum_by}
use Rattle.pisdf_model.specs.Hold.{capped_hold}
use Rattle.graph_reader.specs.Counted.{kept_count}
use Rattle.graph_reader.proofs.file_counts.own_count.Given as goal

abbrev pub invariant-loop-fifo : goal.invariant-loop-fifo
invariant-loop-fifo l = l.total ≡ capped_hold (sum_by (kept_count l.version l.is_top) (take l.fifo-index l.graph.fifos))
