use Rattle.std.proofs.Common.{◌≡◌, map, take}
use Rattle.kernel_gate.specs.Signed.{signature_view}
use Rattle.graph_format.specs.Kernels.{kernel_names}
use Rattle.graph_reader.specs.Lent.{lent}
use Rattle.graph_reader.proofs.file_names.names_of_kernels.Given as goal

abbrev pub invariant-loop-signature : goal.invariant-loop-signature
invariant-loop-signature l = lent l.names.items ≡ kernel_names (map signature_view (take l.signature-index l.signatures))
