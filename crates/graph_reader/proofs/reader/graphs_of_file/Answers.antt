use Rattle.std.proofs.Common.{◌++◌, map}
use Rattle.kernel_gate.specs.Signed.{signature_view}
use Rattle.pisdf_model.proofs.Lists.{left_none, right_none}
use Rattle.pisdf_model.specs.Count.{count_faults}
use Rattle.pisdf_model.specs.Names.{repeats}
use Rattle.graph_format.specs.Faults.{file_faults, fits_kernel, graphs_of, rule_faults, too_many}
use Rattle.graph_format.specs.FileNames.{names_of_file}
use Rattle.graph_format.specs.Kernels.{unfit_in_file}
use Rattle.graph_format.specs.References.{unknown_in_file}
use Rattle.graph_format.specs.declared.graph_fault.GraphFault.TheVariants.{Duplicate, Kernel, Unknown}
use Rattle.graph_reader.proofs.Telling.{tells_none}
use Rattle.graph_reader.proofs.reader.graphs_of_file.Goals as goal

pub returns-clause-tells : goal.returns-clause-tells
returns-clause-tells c =
    let file = c.args.file.now in
    let signatures = map signature_view c.args.signatures.now in
    let duplicates = map Duplicate (repeats (names_of_file file)) in
    let unknown = map Unknown (unknown_in_file file) in
    let after = map Kernel (unfit_in_file signatures file) ++ (rule_faults (fits_kernel signatures) (graphs_of signatures file) ++ map too_many (count_faults (graphs_of signatures file))) in
    let none = c.in_ok-check.ensures in
    tells_none (file_faults signatures file) unknown c.resolved.result none (left_none unknown after (right_none duplicates (unknown ++ after) none)) c.resolved.ensures.tells
