-- Runs of a level, in which the firings of its actors are moved: to other numbers, to another path and among other graphs.
use Rattle.std.specs.Prelude.{◌≡◌, ℕ, ◌<◌, ℤ, List, map, slice_get, slice_index, Option, Some, None, Ok}
use Rattle.param_resolver.specs.Numbering.{acting}
use Rattle.pisdf_model.specs.declared.actor.Actor.{Actor}
use Rattle.pisdf_model.specs.declared.graph.Graph.{Graph}
use Rattle.sdf_level.specs.LevelRun.{Ended, IsLevelRun}
use Rattle.sdf_level.specs.Run.{Fire}
use Rattle.sdf_level.specs.View.{LevelView}
use Rattle.pisdf_meaning.specs.Endings.{child_path}
use Rattle.pisdf_meaning.specs.Meaning.{MeansWithin}
use Rattle.pisdf_meaning.specs.Running.{Fires, Traces}
use Rattle.pisdf_meaning.specs.declared.firing.Firing.{Firing}
use Rattle.pisdf_meaning.specs.declared.outcome.TraceRow.{TraceRow}
use Rattle.pisdf_meaning.specs.declared.refusal.Refusal.{Refusal}
use Rattle.firing_laws.specs.Alike.{HoldsBelow}
use Rattle.firing_laws.specs.Moving.{AreMoved, DifferAt, moved_row}

-- The firings of a level's actors in one firing of a graph, with their traces. Firing k of actor b of a run is the one
-- with number `number b k` among them.
pub record LevelFirings : Type 0 where
  pub graphs : List Graph
  pub graph : Graph
  pub firing : Firing
  pub traces : Traces
  pub number : ℕ → ℕ → ℕ

-- their relation of inputs and answers, over n graphs nested in each other
abbrev pub fires_in : ℕ → List ℤ → LevelFirings → Fire ℤ Refusal
fires_in n values f b k read answer = Fires f.graphs (MeansWithin n f.graphs) f.graph f.firing values f.traces b (f.number b k) read answer

-- the path of firing k of an actor, below that of the firing of its graph
abbrev pub path_of : List ℕ → Option Actor → ℕ → List ℕ
path_of path None k = path
path_of path (Some actor) k = child_path path actor.name k

-- the path of firing k of actor b of a run
abbrev pub path_in : LevelFirings → ℕ → ℕ → List ℕ
path_in f b k = path_of f.firing.path (slice_get (acting f.graph) b) (f.number b k)

-- and its trace
abbrev pub trace_in : LevelFirings → ℕ → ℕ → List TraceRow
trace_in f b k = f.traces b (f.number b k)

-- Both are firings of the same actors, among graphs that differ in the one at `top` alone. Each graph that an actor names is
-- below that one.
pub record AreAlike (top : ℕ) (one other : LevelFirings) : Type 0 where
  pub graphs : DifferAt top one.graphs other.graphs
  pub below : HoldsBelow one.graphs top one.graph
  pub actors : other.graph.actors ≡ one.graph.actors

-- within the counts, the trace of each of the others is that of the one, with the other path in place of the one's
abbrev pub HaveOtherPaths : List ℕ → LevelFirings → LevelFirings → Type 0
HaveOtherPaths counts one other = (b k : ℕ) → k < slice_index counts b → trace_in other b k ≡ map (moved_row (path_in one b k) (path_in other b k)) (trace_in one b k)

-- the run with the others ends the same, and the trace of each firing is there the same, moved
pub record IsRunMoved (n : ℕ) (values : List ℤ) (level : LevelView) (counts : List ℕ) (sources starts : List (List ℤ)) (ended : Ended ℤ) (one other : LevelFirings) : Type 0 where
  pub run : IsLevelRun level counts sources starts (fires_in n values other) (Ok ended)
  pub traces : (b k : ℕ) → k < slice_index counts b → AreMoved (path_in one b k) (path_in other b k) (trace_in one b k) (trace_in other b k)

-- so it is of each run without a fault
abbrev pub RunsMove : ℕ → ℕ → LevelFirings → LevelFirings → Type 0
RunsMove n top one other = (values : List ℤ) (level : LevelView) (counts : List ℕ) (sources starts : List (List ℤ)) (ended : Ended ℤ) → AreAlike top one other → HaveOtherPaths counts one other →
    IsLevelRun level counts sources starts (fires_in n values one) (Ok ended) → IsRunMoved n values level counts sources starts ended one other
