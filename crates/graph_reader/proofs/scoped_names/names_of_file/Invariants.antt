use Rattle.std.proofs.Common.{◌≡◌, ◌++◌, drop}
use Rattle.pisdf_model.specs.Details.{from_number}
use Rattle.graph_format.specs.FileNames.{graph_walk, names_of_file}
use Rattle.graph_reader.proofs.scoped_names.names_of_file.Given as goal

-- what was pushed, and what is left, is all of it
abbrev pub invariant-loop-number : goal.invariant-loop-number
invariant-loop-number l = l.names.items ++ from_number l.number (λ n g. graph_walk n g) (drop l.number l.file.graphs) ≡ names_of_file l.file
