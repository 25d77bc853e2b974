-- Where the buffers of a job lie in its block.
use Rattle.std.specs.Prelude.{ℕ, List, slice_index, slice_index_or}
use Rattle.sdf_level.specs.declared.single_rate.Edge.{Edge}
use Rattle.split_block.specs.Places.{Place}

abbrev pub no_edge : Edge
no_edge = record { tail = 0; tail_port = 0; head = 0; head_port = 0; size = 0 }

-- the edge with this number
abbrev pub edge_at : List Edge → ℕ → Edge
edge_at edges e = slice_index_or edges e no_edge

-- the cells of its buffer
abbrev pub buffer_at : List Edge → List ℕ → ℕ → Place
buffer_at edges offsets e = record { start = slice_index offsets e; len = (edge_at edges e).size }
