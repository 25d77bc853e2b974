use Rattle.std.proofs.Common.{length, sym, ap, ◌∙◌, arith}
use Rattle.std.proofs.lemmas.List.{get_or_read}
use Rattle.nested_jobs.specs.Marks as mark
use Rattle.audit_job.proofs.Refusals.{first_is, none_refused}
use Rattle.audit_job.specs.Ending.{refusal_in}
use Rattle.audit_job.specs.Marks.{answers, mark_of}
use Rattle.audit_job.specs.declared.answer.Mark.TheVariants as stands
use Rattle.audit_job.proofs.ending.first_refused.Goals as goal

pub returns-then-is_refused : goal.returns-then-is_refused
returns-then-is_refused c =
    let at = get_or_read c.args.marks.now c.loop-item.item c.index-marks-item.result c.loop-item-test.true c.index-marks-item.is stands.Free in
    first_is c.args.marks.now c.loop-item.item c.loop-item-test.true (ap (λ m. refusal_in (mark.answer_of (mark_of m))) (sym at)) (sym c.is_refused.ensures ∙ c.if-is_refused.true) c.loop-item.invariant

pub returns : goal.returns
returns c = none_refused (answers c.args.marks.now) 0 (length c.args.marks.now) (λ j low high. c.loop-item.invariant j (omega arith))
