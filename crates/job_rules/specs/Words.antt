-- What the items of a job answer, and what they do. A job is one firing of a graph.
use Rattle.std.specs.Prelude.{ℕ, ℤ, List, [], Ok, Err}
use Rattle.kernel_gate.specs.Value as kernel
use Rattle.pisdf_model.specs.Hold.{in_line}
use Rattle.sdf_level.specs.declared.node.Node.{Node}
use Rattle.level_schedule.specs.declared.scheduling.LevelSchedule.{LevelSchedule}
use Rattle.pisdf_meaning.specs.Endings.{End}
use Rattle.pisdf_meaning.specs.declared.firing.Configured.{Configured}
use Rattle.pisdf_meaning.specs.declared.firing.Firing.{Firing}
use Rattle.pisdf_meaning.specs.declared.firing.Given.{Given}
use Rattle.pisdf_meaning.specs.declared.refusal.Refusal.{Refusal}
use Rattle.pisdf_meaning.specs.declared.refusal.Cause.TheVariants as cause

-- what an item answers: what the firing of an actor or of its graph gives; the schedule to which a compilation comes; or
-- a refusal
pub data Answer : Type 0 where
  Gives : (given : Given) → Answer
  Schedules : (schedule : LevelSchedule) → Answer
  Refuses : (refusal : Refusal) → Answer

-- the answer of a firing of a graph that ends so
abbrev pub answer_of : End → Answer
answer_of (Ok given) = Gives given
answer_of (Err refusal) = Refuses refusal

-- tokens on outputs, and nothing else
abbrev pub given_outs : List (List ℤ) → Given
given_outs outs = record { outs = outs; state = []; trace = []; exports = [] }

-- what a configuration actor leaves of what its firing gives
abbrev pub left_of : Given → Configured
left_of given = record { outs = given.outs; sets = given.exports; state = in_line given.state; trace = given.trace }

-- where a kernel fires: the path of its job, its actor's name, and the number of the firing
pub record Spot : Type 0 where
  pub path : List ℕ
  pub name : List ℕ
  pub turn : ℕ

-- what a kernel is asked
pub record Asked : Type 0 where
  pub kind : ℕ
  pub args : List ℤ
  pub inputs : List (List ℤ)
  pub lens : List ℕ
  pub sets : ℕ

-- what an item does once all before it is there: a kernel fires; a node copies what it reads to outputs of these lengths;
-- a firing of a graph, whose configuration actors left this, is compiled
pub data Work : Type 0 where
  Fires : (spot : Spot) (asked : Asked) → Work
  Copies : (node : Node) (inputs : List (List ℤ)) (lens : List ℕ) → Work
  Compiles : (firing : Firing) (left : List Configured) → Work

-- the answer of a kernel that fires there
abbrev pub fired : Spot → kernel.Answer → Answer
fired spot (kernel.Gives outs sets) = Gives record { outs = outs; state = []; trace = []; exports = sets }
fired spot (kernel.Faults code) = Refuses record { path = spot.path; cause = cause.Kernel spot.name spot.turn code }
