-- Where the items of a job stand, in the words of the rules of jobs.
use Rattle.std.specs.Prelude.{ℕ, List, slice_index_or}
use Rattle.nested_jobs.specs.Marks as mark
use Rattle.nested_jobs.specs.Marks.{Mark}
use Rattle.nested_jobs.specs.Rules.{Values}
use Rattle.pisdf_meaning.specs.declared.firing.Firing.{Firing}
use Rattle.job_rules.specs.Words as words
use Rattle.audit_job.specs.declared.answer.Answer.{Answer}
use Rattle.audit_job.specs.declared.answer.Answer.TheVariants as own
use Rattle.audit_job.specs.declared.answer.Mark.{Mark as OwnMark}
use Rattle.audit_job.specs.declared.answer.Mark.TheVariants as stands

abbrev pub answer_of : Answer → words.Answer
answer_of (own.Gives given) = words.Gives given
answer_of (own.Schedules schedule) = words.Schedules schedule
answer_of (own.Refuses refusal) = words.Refuses refusal

abbrev pub mark_of : OwnMark → Mark Firing words.Answer
mark_of stands.Free = mark.Free
mark_of stands.Busy = mark.Busy
mark_of (stands.Open called) = mark.Open called.value
mark_of (stands.Done answer) = mark.Done (answer_of answer)

-- an item past the end is free
abbrev pub mark_at : List OwnMark → ℕ → Mark Firing words.Answer
mark_at marks i = mark_of (slice_index_or marks i stands.Free)

-- what the finished items answered
abbrev pub answers : List OwnMark → Values words.Answer
answers marks i = mark.answer_of (mark_at marks i)
