-- Graphs that hold graphs: a hierarchical actor of a graph names the graph that it holds.
use Rattle.std.specs.Prelude.{ℕ, zero, suc, ◌+◌, ◌<◌, nat_lt, max, List, [], ◌∷◌, length, map, slice_index_or, All}
use Rattle.std.specs.List.{filter, flat_map, range_with_len}
use Rattle.pisdf_model.specs.Arrows.{to_of, on_cycles}
use Rattle.pisdf_model.specs.declared.actor.Actor.{Actor}
use Rattle.pisdf_model.specs.declared.actor.Body.{Body}
use Rattle.pisdf_model.specs.declared.actor.Body.TheVariants.{Kernel, Config, Child, ConfigChild}
use Rattle.pisdf_model.specs.declared.graph.Graph.{Graph}
use Rattle.pisdf_model.specs.declared.graph.Graphs.{Graphs}

-- the graph that an actor names
abbrev pub children_of : Body → List ℕ
children_of (Kernel kernel args ins outs) = []
children_of (Config kernel args ins outs sets) = []
children_of (Child graph args) = graph ∷ []
children_of (ConfigChild graph args sets) = graph ∷ []

-- the graphs that a graph's actors name, in their order
abbrev pub children : Graph → List ℕ
children g = flat_map (λ (a : Actor). children_of a.body) g.actors

-- the graphs that each graph holds over one actor
abbrev pub child_lists : Graphs → List (List ℕ)
child_lists graphs = map children graphs.graphs

-- each graph that an actor names is there
abbrev pub RefersToGraphs : Graphs → Type 0
RefersToGraphs graphs = All (λ (g : Graph). All (λ w. w < length graphs.graphs) (children g)) graphs.graphs

abbrev pub graph_name : Graphs → ℕ → List ℕ
graph_name graphs place = slice_index_or (map (λ (g : Graph). g.name) graphs.graphs) place []

-- the names of the graphs that hold themselves, over one or more actors
abbrev pub graph_cycle_faults : Graphs → List (List ℕ)
graph_cycle_faults graphs = map (graph_name graphs) (on_cycles (child_lists graphs))

abbrev pub greatest : List ℕ → ℕ
greatest [] = 0
greatest (x ∷ xs) = max x (greatest xs)

-- a graph's nesting, counted to at most n: 1 with no hierarchical actor, else one more than the greatest of its children
unfoldable pub nesting_to : List (List ℕ) → ℕ → ℕ → ℕ
nesting_to child_lists zero place = 0
nesting_to child_lists (suc n) place = 1 + greatest (map (nesting_to child_lists n) (to_of child_lists place))

-- the graphs whose nesting is over n
abbrev pub nested_over : List (List ℕ) → ℕ → List ℕ
nested_over child_lists n = filter (λ place. nat_lt n (nesting_to child_lists (n + 1) place)) (range_with_len 0 (length child_lists))

-- the most graphs that may be nested in each other, the outermost counted
abbrev pub nesting_limit : ℕ
nesting_limit = 8

-- the names of the graphs whose nesting is over the limit
abbrev pub depth_faults : Graphs → List (List ℕ)
depth_faults graphs = map (graph_name graphs) (nested_over (child_lists graphs) nesting_limit)
