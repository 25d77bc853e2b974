use Rattle.std.proofs.Common.{List, All, subst, sym}
use Rattle.graph_format.specs.Writable.{IsWritableGraph}
use Rattle.pisdf_model.specs.declared.graph.Graph.{Graph}
use Rattle.graph_calls.proofs.reading.rewritten.Goals as goal

-- the graphs asked for are those that were read, but for their version
pub graphs_rewritten-requires : goal.graphs_rewritten-requires
graphs_rewritten-requires c =
    let AreWritable : List Graph → Type 0 = All IsWritableGraph in
    subst AreWritable (sym c.in_ok-graphs-in-Ok.ensures) c.in-Ok.ensures.writable
