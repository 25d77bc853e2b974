use Rattle.graph_reader.proofs.Named.{named_view}
use Rattle.graph_reader.proofs.kernels.signature_named.Goals as goal

pub returns : goal.returns
returns c = named_view c.args.signatures.now c.args.name.now c.first_signature.result c.first_signature.ensures
