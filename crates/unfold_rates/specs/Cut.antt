-- One iteration of unfolded graphs, cut into those of the graphs that were unfolded.
use Rattle.std.specs.Prelude.{◌≡◌, ℕ, ◌+◌, ◌*◌, ◌≤◌, ◌==◌, ◌&&◌, Bool, true, List, [], ◌∷◌, length, map, take, drop, zip, bytes_eq, slice_get, Some}
use Rattle.std.specs.List.{filter, flat_map, range_with_len}
use Rattle.std.specs.Arc.{arc_value}
use Rattle.firing_laws.specs.Moving.{moved_row}
use Rattle.level_laws.specs.Parts.{parts_at}
use Rattle.pisdf_meaning.specs.Endings.{child_path}
use Rattle.pisdf_meaning.specs.declared.outcome.Iteration.{Iteration}
use Rattle.pisdf_meaning.specs.declared.outcome.TraceRow.{TraceRow}
use Rattle.pisdf_model.specs.declared.actor.Actor.{Actor}
use Rattle.pisdf_model.specs.declared.graph.Graph.{Graph}
use Rattle.unfold_rates.specs.Exact.{IsExact}
use Rattle.unfold_rates.specs.Multiplied.{unfolded_graphs}
use Rattle.unfold_rates.specs.declared.unfolded.Unfolded.{Unfolded}
use Rattle.pisdf_model.specs.declared.graph.Graphs.{Graphs}

-- ---- what is unfolded

-- so many iterations of these graphs, 1 to 64, as one, with how often each actor of the top graph fires in one of the graphs'
pub record IsUnfolded (graphs : Graphs) (times : ℕ) (u : Unfolded) : Type 0 where
  pub some : 1 ≤ times
  pub few : times ≤ 64
  pub exact : IsExact graphs times
  pub graphs_are : arc_value u.graphs ≡ unfolded_graphs graphs times
  pub counts_are : u.counts ≡ exact.schedule.counts
  pub times_are : u.times ≡ times

-- ---- rows of the trace

abbrev pub ends_or_goes_down : List ℕ → Bool
ends_or_goes_down [] = true
ends_or_goes_down (b ∷ rest) = b == 47

-- the one path is the other, or goes on from it with `/`
abbrev pub is_within : List ℕ → List ℕ → Bool
is_within path other = bytes_eq path (take (length path) other) && ends_or_goes_down (drop (length path) other)

-- the rows within a path, each with the other in place of it
abbrev pub moved_rows : List ℕ → List ℕ → List TraceRow → List TraceRow
moved_rows from to rows = map (moved_row from to) (filter (λ (row : TraceRow). is_within from row.path) rows)

-- of an actor's firings those from first on, of which there are so many, as firings 0 and on
abbrev pub firings_rows : List ℕ → List ℕ → ℕ → ℕ → List TraceRow → List TraceRow
firings_rows top actor first count rows = flat_map (λ j. moved_rows (child_path top actor (first + j)) (child_path top actor j) rows) (range_with_len 0 count)

-- in the piece with this number, each actor's firings from that number times its count on, as many as its count
abbrev pub piece_rows : Graph → List ℕ → ℕ → List TraceRow → List TraceRow
piece_rows top counts i rows = flat_map (λ (one : Actor × ℕ). firings_rows top.name one.0.name (i * one.1) one.1 rows) (zip top.actors counts)

-- ---- the pieces

-- the parts of the outputs, and the rows of the firings, that have this number
abbrev pub piece_at : Graph → List ℕ → ℕ → Iteration → ℕ → Iteration
piece_at top counts times iteration i = record { outs = parts_at times i iteration.outs; trace = piece_rows top counts i iteration.trace }

-- the iteration is cut into these
pub record AreCut (u : Unfolded) (iteration : Iteration) (pieces : List Iteration) : Type 0 where
  pub top : Graph
  pub top_is : slice_get (arc_value u.graphs).graphs (arc_value u.graphs).top ≡ Some top
  pub pieces_are : pieces ≡ map (piece_at top u.counts u.times iteration) (range_with_len 0 u.times)
