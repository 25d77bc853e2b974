-- Graphs with one token 0 in place of each delay that isn't empty.
use Rattle.std.specs.Prelude.{ℤ, pos, List, [], ◌∷◌, map}
use Rattle.pisdf_model.specs.declared.fifo.Fifo.{Fifo}
use Rattle.pisdf_model.specs.declared.graph.Graph.{Graph}
use Rattle.pisdf_model.specs.declared.graph.Graphs.{Graphs}

abbrev pub marked : List ℤ → List ℤ
marked [] = []
marked (token ∷ tokens) = pos 0 ∷ []

abbrev pub marked_fifo : Fifo → Fifo
marked_fifo f = record { tail = f.tail; head = f.head; delay = marked f.delay; life = f.life }

abbrev pub marked_graph : Graph → Graph
marked_graph g = record { name = g.name; params = g.params; inputs = g.inputs; outputs = g.outputs; actors = g.actors; fifos = map marked_fifo g.fifos; exports = g.exports }

abbrev pub marked_graphs : Graphs → Graphs
marked_graphs graphs = record { version = graphs.version; top = graphs.top; graphs = map marked_graph graphs.graphs }
