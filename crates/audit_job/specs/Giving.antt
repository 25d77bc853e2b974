-- Items that have given something.
use Rattle.std.specs.Prelude.{◌≡◌, ℕ, ◌<◌, Bool, true, false, List, slice_index_or, Some}
use Rattle.job_rules.specs.Items.{leaves}
use Rattle.job_rules.specs.Words as words
use Rattle.nested_jobs.specs.Marks as mark
use Rattle.pisdf_meaning.specs.declared.firing.Configured.{Configured}
use Rattle.audit_job.specs.Marks.{mark_of}
use Rattle.audit_job.specs.declared.answer.Answer.{Answer}
use Rattle.audit_job.specs.declared.answer.Answer.TheVariants.{Gives, Schedules, Refuses}
use Rattle.audit_job.specs.declared.answer.Mark.{Mark}
use Rattle.audit_job.specs.declared.answer.Mark.TheVariants.{Free, Busy, Open, Done}

abbrev pub IsGiven : Answer → Type 0
IsGiven (Gives given) = Unit {0}
IsGiven (Schedules schedule) = ⊥
IsGiven (Refuses refusal) = ⊥

-- the item is finished, and gave something
abbrev pub HasGiven : Mark → Type 0
HasGiven Free = ⊥
HasGiven Busy = ⊥
HasGiven (Open called) = ⊥
HasGiven (Done answer) = IsGiven answer

-- each of the first so many items is, and did
abbrev pub HaveGiven : List Mark → ℕ → Type 0
HaveGiven marks count = (i : ℕ) → i < count → HasGiven (slice_index_or marks i Free)

-- this is what it leaves as a configuration actor
abbrev pub Leaves : Mark → Configured → Type 0
Leaves m one = leaves (mark.answer_of (mark_of m)) ≡ Some one

-- whether an answer gives something
abbrev pub gives : words.Answer → Bool
gives (words.Gives given) = true
gives (words.Schedules schedule) = false
gives (words.Refuses refusal) = false
