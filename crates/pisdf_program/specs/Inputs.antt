-- The inputs of the top graph.
use Rattle.std.specs.Prelude.{ℕ, List, map}
use Rattle.pisdf_model.specs.declared.graph.Interface.{Interface}
use Rattle.pisdf_model.specs.declared.graph.Graphs.{Graphs}
use Rattle.quiescent_driver.specs.Top.{top_of}

-- their names
abbrev pub input_names : Graphs → List (List ℕ)
input_names graphs = map (λ (i : Interface). i.name) (top_of graphs).inputs
