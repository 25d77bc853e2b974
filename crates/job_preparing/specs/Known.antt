-- What is known of a graph before its configuration actors fire, where a level has it.
use Rattle.std.specs.Prelude.{◌≡◌, ℕ, [], slice_get, slice_index_or, Option, Some, None}
use Rattle.std.specs.Arc.{arc_value}
use Rattle.param_resolver.specs.EarlyView.{EarlyView, end}
use Rattle.param_resolver.specs.declared.level_set.LevelSet.{LevelSet}
use Rattle.job_preparing.specs.declared.known.EarlyFrom.{EarlyFrom}
use Rattle.job_preparing.specs.declared.known.EarlyFrom.TheVariants.{Alone, Caller}

-- the actor with this number calls a graph, of which this is known
pub record IsKnownBy (set : LevelSet) (actor : ℕ) : Type 0 where
  pub early : EarlyView
  pub is : slice_get set.children actor ≡ Some (Some early)

abbrev pub nothing_known : EarlyView
nothing_known = record { values = []; inputs = []; outputs = []; args = []; outs = []; children = end }

abbrev pub known_in : Option EarlyView → EarlyView
known_in None = nothing_known
known_in (Some early) = early

-- what is known of the graph that the actor with this number calls
abbrev pub known_of : LevelSet → ℕ → EarlyView
known_of set actor = known_in (slice_index_or set.children actor None)

abbrev pub known_view : EarlyFrom → EarlyView
known_view (Alone early) = arc_value early
known_view (Caller level actor) = known_of (arc_value level).made.set actor

abbrev pub IsKnown : EarlyFrom → Type 0
IsKnown (Alone early) = Unit {0}
IsKnown (Caller level actor) = IsKnownBy (arc_value level).made.set actor
