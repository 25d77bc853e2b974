-- The top graph.
use Rattle.std.specs.Prelude.{slice_index_or}
use Rattle.pisdf_model.specs.declared.graph.Graph.{Graph}
use Rattle.pisdf_model.specs.declared.graph.Graphs.{Graphs}
use Rattle.job_rules.specs.Items.{no_graph}

abbrev pub top_of : Graphs → Graph
top_of graphs = slice_index_or graphs.graphs graphs.top no_graph
