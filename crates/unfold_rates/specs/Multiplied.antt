-- Graphs one iteration of which is several of others: each interface of the top graph has a multiple of its rate.
use Rattle.std.specs.Prelude.{ℕ, zero, suc, pos, List, [], ◌∷◌, map}
use Rattle.param_expr.specs.Tree.{Tree, number, binary}
use Rattle.param_expr.specs.declared.op.Op.TheVariants.{Mul}
use Rattle.pisdf_model.specs.declared.graph.Graph.{Graph}
use Rattle.pisdf_model.specs.declared.graph.Graphs.{Graphs}
use Rattle.pisdf_model.specs.declared.graph.Interface.{Interface}

-- a rate times a number, as an expression
abbrev pub multiplied_rate : ℕ → Tree → Tree
multiplied_rate times rate = binary Mul rate (number (pos times))

abbrev pub multiplied_interface : ℕ → Interface → Interface
multiplied_interface times x = record x { rate = multiplied_rate times x.rate }

abbrev pub multiplied_graph : ℕ → Graph → Graph
multiplied_graph times g = record g { inputs = map (multiplied_interface times) g.inputs; outputs = map (multiplied_interface times) g.outputs }

-- of these graphs the one at a place
abbrev pub multiplied_at : ℕ → ℕ → List Graph → List Graph
multiplied_at times place [] = []
multiplied_at times zero (g ∷ graphs) = multiplied_graph times g ∷ graphs
multiplied_at times (suc place) (g ∷ graphs) = g ∷ multiplied_at times place graphs

-- each interface of the top graph has its rate times a number; all else is the same
abbrev pub unfolded_graphs : Graphs → ℕ → Graphs
unfolded_graphs graphs times = record graphs { graphs = multiplied_at times graphs.top graphs.graphs }
