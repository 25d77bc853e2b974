use Rattle.std.proofs.Common.{map}
use Rattle.std.proofs.lemmas.Result.{err_from_is_err_and}
use Rattle.kernel_gate.specs.Signed.{signature_view}
use Rattle.graph_format.proofs.OfVersion.{stated_of_version}
use Rattle.graph_format.proofs.Reading.{reads_file}
use Rattle.graph_reader.proofs.reader.graphs_of_bytes.Goals as goal

pub graphs_of_file-requires : goal.graphs_of_file-requires
graphs_of_file-requires c = let stated = c.in_ok-file.ensures.stated in stated_of_version stated.0 c.in_ok-file.file stated.2

pub returns-in_err-file : goal.returns-in_err-file
returns-in_err-file c =
    let p = err_from_is_err_and c.from_residual.result c.from_residual.ensures.1 in
    rw (p.1, p.2) (c.in_err-file.ensures.refused (map signature_view c.args.signatures.now))

pub returns : goal.returns
returns c = reads_file (map signature_view c.args.signatures.now) c.args.bytes.now c.in_ok-file.file c.graphs_of_file.result c.in_ok-file.ensures.stated c.graphs_of_file.ensures.tells c.graphs_of_file.ensures.graphs
