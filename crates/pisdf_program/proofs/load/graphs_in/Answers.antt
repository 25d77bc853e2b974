use Rattle.std.proofs.Common.{sym, subst, arith, Result}
use Rattle.pisdf_model.specs.declared.graph.Graphs.{Graphs}
use Rattle.pisdf_program.specs.Loaded.{Settles}
use Rattle.pisdf_program.specs.declared.status.Status.{Status}
use Rattle.pisdf_program.proofs.Reading.{read_graphs_long, read_graphs_short}
use Rattle.pisdf_program.proofs.load.graphs_in.Goals as goal

pub returns-then-bytes-gt-GRAPH_BYTES-clause-settles : goal.returns-then-bytes-gt-GRAPH_BYTES-clause-settles
returns-then-bytes-gt-GRAPH_BYTES-clause-settles c = λ answer. read_graphs_long c.args.bytes.now (omega arith)

pub returns-clause-settles : goal.returns-clause-settles
returns-clause-settles c =
    subst (λ (r : Result Graphs Status). Settles r c.parse_graphs.result) (sym (read_graphs_short c.args.bytes.now (omega arith))) c.parse_graphs.ensures.settles
