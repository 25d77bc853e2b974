use Rattle.std.proofs.Common.{arith, map}
use Rattle.kernel_gate.specs.Signed.{signature_view}
use Rattle.graph_writer.specs.ReadAgain.{CanBeReadAgain}
use Rattle.graph_writer.proofs.Depths.{nests_little}
use Rattle.graph_writer.proofs.WrittenFile.{read_again}
use Rattle.graph_writer.proofs.ReadableGraphs.{read_can_be_read_again}
use Rattle.graph_writer.proofs.root.write.Goals as goal

pub returns-clause-rewritten : goal.returns-clause-rewritten
returns-clause-rewritten c before was =
    let signatures = map signature_view c.args.signatures.now in
    let can : CanBeReadAgain signatures c.args.graphs.now = read_can_be_read_again signatures before c.args.graphs.now was c.in_ok-root.ensures.tokens in
    grind (arith, read_again, nests_little)
