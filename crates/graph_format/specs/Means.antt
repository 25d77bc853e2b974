-- What a file means as graphs.
use Rattle.std.specs.Prelude.{◌≡◌, List, []}
use Rattle.kernel_gate.specs.Signed.{SignatureView}
use Rattle.pisdf_model.specs.declared.graph.Graphs.{Graphs}
use Rattle.graph_format.specs.declared.file.File.{File}
use Rattle.graph_format.specs.Placed.{placed, tokens_of}
use Rattle.graph_format.specs.References.{unknown_in_file}
use Rattle.graph_format.specs.Kernels.{kernel_names, unfit_in_file}

-- Every reference and every kernel of the file names what is there, and the graphs are the file's with places for names.
pub record Means (signatures : List SignatureView) (file : File) (graphs : Graphs) : Type 0 where
  pub references : unknown_in_file file ≡ []
  pub kernels : unfit_in_file signatures file ≡ []
  pub is : graphs ≡ placed tokens_of (kernel_names signatures) file
