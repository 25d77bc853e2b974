-- Firings that are moved: to another path, and to graphs that differ from these in one graph alone, which isn't fired.
use Rattle.std.specs.Prelude.{◌≡◌, ◌≢◌, ℕ, List, [], ◌∷◌, ◌++◌, drop, length, map, slice_get, Ok}
use Rattle.std.specs.List.{AllByRecursion}
use Rattle.pisdf_model.specs.Arrows.{Reaches}
use Rattle.pisdf_model.specs.Nesting.{children}
use Rattle.pisdf_model.specs.declared.graph.Graph.{Graph}
use Rattle.pisdf_meaning.specs.Meaning.{MeansWithin}
use Rattle.pisdf_meaning.specs.declared.firing.Firing.{Firing}
use Rattle.pisdf_meaning.specs.declared.firing.Given.{Given}
use Rattle.pisdf_meaning.specs.declared.outcome.TraceRow.{TraceRow}

-- ---- graphs

-- the same graph stands at each place but this one
abbrev pub DifferAt : ℕ → List Graph → List Graph → Type 0
DifferAt top one other = (place : ℕ) → place ≢ top → slice_get other place ≡ slice_get one place

-- the graph at a place isn't the one at `top`, and doesn't hold it, however deep
pub record IsBelow (graphs : List Graph) (top place : ℕ) : Type 0 where
  pub apart : place ≢ top
  pub without : Reaches (map children graphs) place top → ⊥

-- ---- paths

-- the same firing at another path
abbrev pub at_path : List ℕ → Firing → Firing
at_path path firing = record { path = path; graph = firing.graph; inherited = firing.inherited; inputs = firing.inputs; state = firing.state }

-- the row, with this path before its own
abbrev pub under : List ℕ → TraceRow → TraceRow
under path row = record { path = path ++ row.path; name = row.name; value = row.value }

-- the row, with `other` in place of the path with which its own begins
abbrev pub moved_row : List ℕ → List ℕ → TraceRow → TraceRow
moved_row path other row = record { path = other ++ drop (length path) row.path; name = row.name; value = row.value }

-- what follows on a path in one of a firing below it: nothing, or what begins with `/`, which has code 47
abbrev pub GoesDown : List ℕ → Type 0
GoesDown [] = Unit {0}
GoesDown (code ∷ rest) = code ≡ 47

-- Row for row these are the same, but that each path begins with `path` in the one and with `other` in the other. There it
-- ends, or it goes down alike.
pub record AreMoved (path other : List ℕ) (rows moved : List TraceRow) : Type 0 where
  pub below : List TraceRow
  pub down : AllByRecursion (λ (row : TraceRow). GoesDown row.path) below
  pub rows_are : rows ≡ map (under path) below
  pub moved_are : moved ≡ map (under other) below

-- the same is given, but for the paths in the trace
pub record IsMoved (path other : List ℕ) (given moved : Given) : Type 0 where
  pub outs : moved.outs ≡ given.outs
  pub state : moved.state ≡ given.state
  pub exports : moved.exports ≡ given.exports
  pub trace : AreMoved path other given.trace moved.trace

-- ---- the law

-- what a firing gives that is done, over n graphs nested in each other, it gives at another path and among the other graphs too
abbrev pub FiringsMove : ℕ → ℕ → List Graph → List Graph → Type 0
FiringsMove n top one other = (firing : Firing) (path : List ℕ) (given : Given) → IsBelow one top firing.graph → MeansWithin n one firing (Ok given) →
    (moved : Given) × MeansWithin n other (at_path path firing) (Ok moved) × IsMoved firing.path path given moved
