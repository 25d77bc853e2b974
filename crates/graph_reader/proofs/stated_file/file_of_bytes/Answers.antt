use Rattle.std.proofs.Common.{rules}
use Rattle.serde_json.specs.View.{view}
use Rattle.graph_format.specs.Reads.{IsJson}
use Rattle.graph_format.proofs.Reading.{value_refused}
use Rattle.graph_reader.proofs.stated_file.file_of_bytes.Goals as goal

pub returns-clause-refused : goal.returns-clause-refused
returns-clause-refused c = λ signatures.
    let json : IsJson c.args.bytes.now (view c.in-Ok.value) = search rules in
    value_refused signatures c.args.bytes.now (view c.in-Ok.value) c.file_of_value.result json (c.file_of_value.ensures.refused signatures)
