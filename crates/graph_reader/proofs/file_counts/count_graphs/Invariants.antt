use Rattle.std.proofs.Common.{false}
use Rattle.std.specs.Prelude.{slice_index_or}
use Rattle.pisdf_model.specs.Count.{excess_of}
use Rattle.pisdf_model.proofs.Walking.{Stands}
use Rattle.graph_reader.specs.Counted.{part_counts}
use Rattle.graph_reader.proofs.file_counts.count_graphs.Given as goal

abbrev pub invariant-loop-number : goal.invariant-loop-number
invariant-loop-number l = Stands 0 (λ n g. excess_of (part_counts (slice_index_or l.large n false) g)) l.number l.graphs
