-- Rows of a trace in the order of the firings in which they stand.
use Rattle.std.specs.Prelude.{◌≡◌, ℕ, ◌+◌, ◌<◌, ◌≤◌, true, false, List, [], length, map, slice_get, slice_index, slice_index_or, slice_range, Some}
use Rattle.std.specs.List.{All, AllByRecursion, AllPass, filter}
use Rattle.param_expr.specs.Print.{Differ}
use Rattle.param_expr.specs.Words.{IsName}
use Rattle.pisdf_meaning.specs.Endings.{child_path}
use Rattle.pisdf_meaning.specs.Running.{Traces, child_rows}
use Rattle.pisdf_meaning.specs.declared.outcome.TraceRow.{TraceRow}
use Rattle.pisdf_model.specs.InterfaceWires.{is_configuration}
use Rattle.pisdf_model.specs.declared.actor.Actor.{Actor}
use Rattle.pisdf_model.specs.declared.graph.Graph.{Graph}
use Rattle.unfold_rates.specs.Cut.{is_within}

-- the rows from start to end stand within the path, and the next one, if any, doesn't
pub record IsSpan (rows : List TraceRow) (path : List ℕ) (start end : ℕ) : Type 0 where
  pub forward : start ≤ end
  pub inside : end ≤ length rows
  pub within : AllPass (λ (row : TraceRow). is_within path row.path) (slice_range rows start end)
  pub over : (row : TraceRow) → slice_get rows end ≡ Some row → is_within path row.path ≡ false

-- from start on, one span after another for each of so many firings of an actor
pub record AreSpans (rows : List TraceRow) (top actor : List ℕ) (count start : ℕ) (bounds : List ℕ) : Type 0 where
  pub long : length bounds ≡ count + 1
  pub first : slice_index bounds 0 ≡ start
  pub each : (k : ℕ) → k < count → IsSpan rows (child_path top actor k) (slice_index bounds k) (slice_index bounds (k + 1))

-- between the bounds of each of so many firings of an actor stand just the rows within its path
pub record ArePicked (rows : List TraceRow) (top actor : List ℕ) (count : ℕ) (bounds : List ℕ) : Type 0 where
  pub long : length bounds ≡ count + 1
  pub forward : (k : ℕ) → k < count → slice_index bounds k ≤ slice_index bounds (k + 1)
  pub inside : (k : ℕ) → k < count → slice_index bounds (k + 1) ≤ length rows
  pub picked : (k : ℕ) → k < count → slice_range rows (slice_index bounds k) (slice_index bounds (k + 1)) ≡ filter (λ (row : TraceRow). is_within (child_path top actor k) row.path) rows

-- so it is of each actor, of which there are a count of firings and bounds
pub record ArePickedEach (rows : List TraceRow) (top : Graph) (counts : List ℕ) (bounds : List (List ℕ)) : Type 0 where
  pub one_each : length bounds ≡ length top.actors
  pub each : (a : ℕ) (actor : Actor) → slice_get top.actors a ≡ Some actor → ArePicked rows top.name actor.name (slice_index counts a) (slice_index_or bounds a [])

-- the rows are those of the firings of the graph's actors, each its count, one after another, and each within its path
pub record AreInOrder (top : Graph) (counts : List ℕ) (rows : List TraceRow) : Type 0 where
  pub configures_nothing : All (λ (a : Actor). is_configuration a.body ≡ false) top.actors
  pub named : All (λ (a : Actor). IsName a.name) top.actors
  pub differ : Differ (map (λ (a : Actor). a.name) top.actors)
  pub traces : Traces
  pub rows_are : rows ≡ child_rows counts traces 0 top.actors []
  pub within : (b k : ℕ) (actor : Actor) → slice_get top.actors b ≡ Some actor → k < slice_index counts b → AllByRecursion (λ (row : TraceRow). is_within (child_path top.name actor.name k) row.path ≡ true) (traces b k)
