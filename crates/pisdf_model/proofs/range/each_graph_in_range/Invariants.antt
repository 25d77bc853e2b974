use Rattle.std.proofs.Common.{ℕ, ◌<◌, eqb, get_or}
use Rattle.pisdf_model.specs.Range.{IsGraphInRange}
use Rattle.pisdf_model.specs.declared.graph.Graph.{Graph}
use Rattle.pisdf_model.proofs.range.each_graph_in_range.Given as goal

abbrev pub invariant-loop-number : goal.invariant-loop-number
invariant-loop-number l = (n : ℕ) (d : Graph) → n < l.number → IsGraphInRange l.version l.graphs (eqb n l.top) (get_or l.graphs n d)
