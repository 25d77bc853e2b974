-- Graphs of version 1 as those of version 2.
use Rattle.std.specs.Prelude.{◌≡◌, ℕ, ◌==◌, ◌<◌, length, slice_index_or, All}
use Rattle.pisdf_model.specs.Range.{life_of}
use Rattle.pisdf_model.specs.declared.fifo.Fifo.{Fifo}
use Rattle.pisdf_model.specs.declared.graph.Graph.{Graph}
use Rattle.pisdf_model.specs.declared.graph.Graphs.{Graphs}

-- the version is 2, and all else is the same, the lives of delays too
abbrev pub upgraded : Graphs → Graphs
upgraded graphs = record graphs { version = 2 }

-- each delay has the life that it has in a file of version 1
abbrev pub HasFirstLives : Graphs → Type 0
HasFirstLives graphs = (n : ℕ) (d : Graph) → n < length graphs.graphs → All (λ (f : Fifo). f.life ≡ life_of 1 (n == graphs.top) f.life f.delay) (slice_index_or graphs.graphs n d).fifos
