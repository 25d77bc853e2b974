use Rattle.std.proofs.Common.{map}
use Rattle.kernel_gate.specs.Signed.{signature_view}
use Rattle.graph_format.proofs.Misshapen.{tells_shape}
use Rattle.graph_format.proofs.Reading.{reads_in_range, reads_mean, reads_named, reads_stated, reads_well_formed, reads_writable}
use Rattle.graph_reader.proofs.reader.read.Goals as goal

pub returns-clause-means : goal.returns-clause-means
returns-clause-means c = reads_mean (map signature_view c.args.signatures.now) c.args.bytes.now c.graphs_of_bytes.result c.graphs_of_bytes.ensures

pub returns-clause-in_range : goal.returns-clause-in_range
returns-clause-in_range c = reads_in_range (map signature_view c.args.signatures.now) c.args.bytes.now c.graphs_of_bytes.result c.graphs_of_bytes.ensures

pub returns-clause-well_formed : goal.returns-clause-well_formed
returns-clause-well_formed c = reads_well_formed (map signature_view c.args.signatures.now) c.args.bytes.now c.graphs_of_bytes.result c.graphs_of_bytes.ensures

pub returns-clause-named : goal.returns-clause-named
returns-clause-named c = reads_named (map signature_view c.args.signatures.now) c.args.bytes.now c.graphs_of_bytes.result c.graphs_of_bytes.ensures

pub returns-clause-writable : goal.returns-clause-writable
returns-clause-writable c = reads_writable (map signature_view c.args.signatures.now) c.args.bytes.now c.graphs_of_bytes.result c.graphs_of_bytes.ensures

pub returns-clause-stated : goal.returns-clause-stated
returns-clause-stated c = reads_stated (map signature_view c.args.signatures.now) c.args.bytes.now c.graphs_of_bytes.result c.graphs_of_bytes.ensures

pub returns-clause-shape : goal.returns-clause-shape
returns-clause-shape c = tells_shape (map signature_view c.args.signatures.now) c.args.bytes.now c.graphs_of_bytes.result c.graphs_of_bytes.ensures
