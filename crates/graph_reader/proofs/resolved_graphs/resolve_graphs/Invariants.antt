use Rattle.std.proofs.Common.{ℕ, ◌==◌}
use Rattle.std.specs.List.{enumerate_from}
use Rattle.graph_format.specs.declared.file.FileGraph.{FileGraph}
use Rattle.graph_format.specs.Placed.{placed_graph}
use Rattle.graph_format.specs.References.{unknown_in_graph}
use Rattle.graph_format.specs.KnownNames.{known_names}
use Rattle.graph_reader.specs.Setting.{delays_by}
use Rattle.graph_reader.proofs.Each.{Stands}
use Rattle.graph_reader.proofs.resolved_graphs.resolve_graphs.Given as goal

abbrev pub invariant-loop-place : goal.invariant-loop-place
invariant-loop-place l =
    Stands (λ (n : ℕ × FileGraph). unknown_in_graph (known_names l.names.kernels l.graphs n.1) n.1) (λ (n : ℕ × FileGraph). placed_graph l.version (delays_by l.delays) (n.0 == l.top) (known_names l.names.kernels l.graphs n.1) n.1) (enumerate_from 0 l.graphs) l.place l.resolved.items
