-- The names of the ports of a child.
use Rattle.std.specs.Prelude.{ℕ, List, [], map, slice_index_or}
use Rattle.pisdf_model.specs.declared.graph.Graph.{Graph}
use Rattle.graph_format.specs.Named.{name_at_place, names_of_interfaces}

-- the interface at a place of a child
abbrev pub child_port : List Graph → ℕ → ℕ → List ℕ
child_port graphs child place = name_at_place (slice_index_or (map names_of_interfaces graphs) child []) place
