use Rattle.std.proofs.Common.{◌≡◌, ◌++◌, drop}
use Rattle.pisdf_model.specs.Details.{from_number}
use Rattle.pisdf_model.specs.Names.{graph_walk, names_of}
use Rattle.pisdf_model.proofs.duplicates.names.Given as goal

-- what was pushed, and what is left, is all of it
abbrev pub invariant-loop-number : goal.invariant-loop-number
invariant-loop-number l = l.names.items ++ from_number l.number (λ n g. graph_walk n g) (drop l.number l.graphs.graphs) ≡ names_of l.graphs
