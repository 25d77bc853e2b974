-- What a board keeps of compilations.
use Rattle.std.specs.Prelude.{◌≡◌, Option, IfSome, is_some}
use Rattle.std.specs.Arc.{arc_value}
use Rattle.pisdf_model.specs.declared.graph.Graphs.{Graphs}
use Rattle.job_preparing.specs.Levels.{IsLevelOf}
use Rattle.job_preparing.specs.declared.compiling.CompileEnd.{CompileEnd}
use Rattle.job_preparing.specs.declared.compiling.CompileEnd.TheVariants.{Ready, Refused, Memory}
use Rattle.firing_board.specs.declared.keeping.Keeping.{Keeping}

-- the levels that are kept, if any are, are of these graphs
abbrev pub AreKeptLevelsOf : Graphs → Option Graphs → Type 0
AreKeptLevelsOf graphs levels = IfSome levels (λ own. own ≡ graphs)

-- compilations are kept as before, and levels of the same graphs
pub record KeepsAs (old new : Keeping) : Type 0 where
  pub kept : is_some new.kept ≡ is_some old.kept
  pub graphs : (graphs : Graphs) → AreKeptLevelsOf graphs old.levels → AreKeptLevelsOf graphs new.levels

-- a level that a compilation ended with is of these graphs
abbrev pub IsOfLevels : Graphs → CompileEnd → Type 0
IsOfLevels graphs (Ready level) = IsLevelOf graphs.graphs (arc_value level)
IsOfLevels graphs (Refused cause) = Unit {0}
IsOfLevels graphs Memory = Unit {0}
