-- Levels that are ready, as they are kept by their keys.
use Rattle.std.specs.Prelude.{◌≡◌, ℕ, List, Option, Some, Contains}
use Rattle.std.specs.Option.{option_map}
use Rattle.std.specs.Arc.{arc_value}
use Rattle.job_compiler.specs.Compilation.{Compilation}
use Rattle.job_compiler.specs.declared.key.Key.{Key}
use Rattle.pisdf_model.specs.declared.graph.Graph.{Graph}
use Rattle.pisdf_meaning.specs.declared.firing.Configured.{Configured}
use Rattle.pisdf_meaning.specs.declared.firing.Firing.{Firing}
use Rattle.job_preparing.specs.CompileTasks.{IsReadyFor}
use Rattle.job_preparing.specs.declared.compiling.ReadyLevel.{ReadyLevel}
use Rattle.job_preparing.specs.declared.levels.AtHand.{AtHand}
use Rattle.job_preparing.specs.declared.levels.AtHand.TheVariants as at_hand

-- it was made for a firing of one of these graphs
pub record IsLevelOf (graphs : List Graph) (level : ReadyLevel) : Type 0 where
  pub workers : ℕ
  pub firing : Firing
  pub left : List Configured
  pub ready : IsReadyFor graphs workers firing left level

-- and has this key
pub record IsLevelBy (graphs : List Graph) (key : Key) (level : ReadyLevel) : Type 0 where
  pub key_is : level.key ≡ key
  pub level_of : IsLevelOf graphs level

abbrev pub AreLevelsOf : List Graph → List (Key × ReadyLevel) → Type 0
AreLevelsOf graphs levels = (entry : Key × ReadyLevel) → Contains levels entry → IsLevelBy graphs entry.0 entry.1

-- ---- what is at hand for a compilation

-- it is of this key
abbrev pub SuitsKey : List Graph → Key → AtHand → Type 0
SuitsKey graphs key (at_hand.Level level) = IsLevelBy graphs key (arc_value level)
SuitsKey graphs key (at_hand.Key own kept) = own ≡ key

-- the compilation in it
abbrev pub compilation_in : AtHand → Option Compilation
compilation_in (at_hand.Level level) = Some (arc_value (arc_value level).made.compiled)
compilation_in (at_hand.Key own kept) = option_map arc_value kept
