-- Levels that compilations end with, and that are kept.
use Rattle.std.proofs.Common.{◌≡◌, ℕ, List, Option, sym, subst}
use Rattle.pisdf_model.specs.declared.graph.Graphs.{Graphs}
use Rattle.pisdf_meaning.specs.declared.firing.Configured.{Configured}
use Rattle.pisdf_meaning.specs.declared.firing.Firing.{Firing}
use Rattle.job_preparing.specs.CompileTasks.{IsEndOf}
use Rattle.job_preparing.specs.declared.compiling.CompileEnd.{CompileEnd}
use Rattle.job_preparing.specs.declared.compiling.CompileEnd.TheVariants.{Ready, Refused, Memory}
use Rattle.firing_board.specs.Keeping.{AreKeptLevelsOf, IsOfLevels}

pub ended_level : (graphs : Graphs) (workers : ℕ) (firing : Firing) (left : List Configured) (end : CompileEnd) → IsEndOf graphs.graphs workers firing left end → IsOfLevels graphs end
ended_level graphs workers firing left (Ready level) is = record { workers = workers; firing = firing; left = left; ready = is }
ended_level graphs workers firing left (Refused cause) is = tt
ended_level graphs workers firing left Memory is = tt

-- they are of the same graphs, by another name
pub levels_same : (graphs new : Graphs) (levels : Option Graphs) → new ≡ graphs → AreKeptLevelsOf graphs levels → AreKeptLevelsOf new levels
levels_same graphs new levels same are = subst (λ g. AreKeptLevelsOf g levels) (sym same) are
