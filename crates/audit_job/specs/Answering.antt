-- What items answer.
use Rattle.std.specs.Prelude.{◌≡◌, ◌≢◌, ◌<◌, ◌^◌, ℕ, List, length, Option, Some}
use Rattle.kernel_gate.specs.Signed.{Counts}
use Rattle.kernel_gate.specs.Value.{lengths}
use Rattle.nested_jobs.specs.Marks.{Mark}
use Rattle.nested_jobs.specs.Rules.{Task, Work}
use Rattle.special_actors.specs.Fitting.{HasLengths}
use Rattle.pisdf_model.specs.declared.graph.Graph.{Graph}
use Rattle.pisdf_meaning.specs.declared.firing.Firing.{Firing}
use Rattle.job_rules.specs.Doing.{Answers}
use Rattle.job_rules.specs.Fitting.{FitsAsked}
use Rattle.job_rules.specs.Words as words

-- the task is work, which can have this answer
pub record IsAnswer (graphs : List Graph) (task : Option (Task Firing words.Work)) (answer : words.Answer) : Type 0 where
  pub work : words.Work
  pub task_is : task ≡ Some (Work work)
  pub answered : Answers graphs work answer

-- the work can be done: it fits the signature of its kernel, or has the ports and the lengths of its node, with a number of 32
-- bits for each port
abbrev pub FitsWork : List Counts → words.Work → Type 0
FitsWork signatures (words.Fires spot asked) = FitsAsked signatures asked
FitsWork signatures (words.Copies node read lens) = HasLengths node (lengths read) lens × (length read < 2 ^ 32) × (length lens < 2 ^ 32)
FitsWork signatures (words.Compiles firing left) = Unit {0}

-- the marks are as before but for this one
pub record IsMarked (item : ℕ) (mark : Mark Firing words.Answer) (old new : ℕ → Mark Firing words.Answer) : Type 0 where
  pub here : new item ≡ mark
  pub others : (i : ℕ) → i ≢ item → new i ≡ old i
