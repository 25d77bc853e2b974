-- What an item is to do: work of its own, or a call of a job.
use Rattle.std.specs.Prelude.{◌≡◌, Bool, true, false, Option, Some, None, is_none}
use Rattle.nested_jobs.specs.Marks.{Mark, Free, Busy, Open, Done}
use Rattle.nested_jobs.specs.Rules.{Task, Work, Call}
use Rattle.pisdf_meaning.specs.declared.firing.Firing.{Firing}
use Rattle.job_rules.specs.Words as words
use Rattle.audit_job.specs.declared.answer.Kind.{Kind}
use Rattle.audit_job.specs.declared.answer.Kind.TheVariants as kind

-- the task is of this kind; none, where there is none
abbrev pub IsKind : Option (Task Firing words.Work) → Option Kind → Type 0
IsKind task None = task ≡ None
IsKind task (Some kind.Work) = (work : words.Work) × (task ≡ Some (Work work))
IsKind task (Some kind.Call) = (firing : Firing) × (task ≡ Some (Call firing))

-- nothing more will come of an item with this mark, which is to do this
abbrev pub settles : Mark Firing words.Answer → Option Kind → Bool
settles Free kind = is_none kind
settles Busy kind = false
settles (Open firing) kind = false
settles (Done answer) kind = true
