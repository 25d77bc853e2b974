use Rattle.std.proofs.Common.{◌∙◌, false, sym}
use Rattle.std.specs.Prelude.{slice_index_or}
use Rattle.pisdf_model.specs.Count.{excess_of}
use Rattle.pisdf_model.specs.declared.detail_fault.DetailFault.TheVariants.{Fault}
use Rattle.pisdf_model.proofs.Walking.{refuses_here}
use Rattle.graph_reader.specs.Counted.{part_counts}
use Rattle.graph_reader.proofs.file_counts.count_graphs.Goals as goal

pub returns-in-Some : goal.returns-in-Some
returns-in-Some c =
    refuses_here (λ n g. excess_of (part_counts (slice_index_or c.args.large.now n false) g)) c.loop-number.number c.args.graphs.now c.index-graphs-number.result (Fault c.in-Some.counted) c.loop-number-test.true c.index-graphs-number.is
    (sym c.first_excess.ensures ∙ c.in-Some.is) c.loop-number.invariant
