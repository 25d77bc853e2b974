-- Which answers work can have.
use Rattle.std.specs.Prelude.{◌≡◌, ℕ, ℤ, List, slice_get, Some, Result, Ok, Err}
use Rattle.kernel_gate.specs.Table.{the_value}
use Rattle.kernel_gate.specs.Value as kernel
use Rattle.kernel_gate.specs.Value.{lengths}
use Rattle.pisdf_model.specs.declared.graph.Graph.{Graph}
use Rattle.sdf_level.specs.declared.node.Node.{Node}
use Rattle.special_actors.specs.Copying.{joined, PassesOn}
use Rattle.level_schedule.specs.declared.scheduling.LevelSchedule.{LevelSchedule}
use Rattle.pisdf_meaning.specs.Endings.{Then}
use Rattle.pisdf_meaning.specs.Preparing.{resolved, rated, level_in, Schedules}
use Rattle.pisdf_meaning.specs.declared.firing.Configured.{Configured}
use Rattle.pisdf_meaning.specs.declared.firing.Firing.{Firing}
use Rattle.pisdf_meaning.specs.declared.refusal.Refusal.{Refusal}
use Rattle.job_rules.specs.Words as words
use Rattle.job_rules.specs.Words.{Answer, Work, Fires, Copies, Compiles, Asked, given_outs, fired}

-- what the kernel gives for what it is asked
abbrev pub value_of : Asked → kernel.Answer
value_of asked = the_value asked.kind asked.args asked.inputs asked.lens asked.sets

-- outputs of these lengths, which the node passes on of its inputs
pub record IsCopied (node : Node) (inputs : List (List ℤ)) (lens : List ℕ) (answer : Answer) : Type 0 where
  pub outs : List (List ℤ)
  pub answer_is : answer ≡ words.Gives (given_outs outs)
  pub fitting : lengths outs ≡ lens
  pub passed : PassesOn node (joined inputs) (joined outs)

-- the firing, whose configuration actors left this, comes to this schedule or refusal: the parameters, then the rates, then
-- the schedule of the level are worked out
abbrev pub LeadsToSchedule : List Graph → Graph → Firing → List Configured → Result LevelSchedule Refusal → Type 0
LeadsToSchedule graphs g firing left end =
    Then (λ values end. Then (λ values end. Schedules g firing (level_in graphs g firing values) end) (rated graphs g firing values) end) (resolved graphs g firing left) end

abbrev pub scheduled : Result LevelSchedule Refusal → Answer
scheduled (Ok schedule) = words.Schedules schedule
scheduled (Err refusal) = words.Refuses refusal

pub record IsCompiled (graphs : List Graph) (firing : Firing) (left : List Configured) (answer : Answer) : Type 0 where
  pub g : Graph
  pub here : slice_get graphs firing.graph ≡ Some g
  pub end : Result LevelSchedule Refusal
  pub leads : LeadsToSchedule graphs g firing left end
  pub answer_is : answer ≡ scheduled end

-- this work can have this answer, and no other
abbrev pub Answers : List Graph → Work → Answer → Type 0
Answers graphs (Fires spot asked) answer = answer ≡ fired spot (value_of asked)
Answers graphs (Copies node inputs lens) answer = IsCopied node inputs lens answer
Answers graphs (Compiles firing left) answer = IsCompiled graphs firing left answer
