use Rattle.std.proofs.Common.{◌≡◌, map, take}
use Rattle.graph_format.specs.KnownNames.{interfaces_of}
use Rattle.graph_reader.proofs.file_names.all_interfaces.Given as goal

abbrev pub invariant-loop-graph : goal.invariant-loop-graph
invariant-loop-graph l = l.all.items ≡ map interfaces_of (take l.graph-index l.graphs)
