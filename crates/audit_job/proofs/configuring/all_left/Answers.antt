use Rattle.std.proofs.Common.{◌<◌, length, Some, sym, ap, ◌∙◌, arith}
use Rattle.std.proofs.lemmas.List.{get_or_read}
use Rattle.job_rules.specs.Items.{leaves}
use Rattle.nested_jobs.specs.Marks as mark
use Rattle.audit_job.specs.Marks.{answers, mark_of}
use Rattle.audit_job.specs.declared.answer.Mark.TheVariants.{Free}
use Rattle.audit_job.proofs.Leaving.{left_next}
use Rattle.audit_job.proofs.configuring.all_left.Goals as goal

pub loop-item-preserved : goal.loop-item-preserved
loop-item-preserved c = λ cs many.
    let within = c.requires.within in
    let inside : c.loop-item.item < length c.args.marks.now = omega arith in
    let at = get_or_read c.args.marks.now c.loop-item.item c.index-marks-item.result inside c.index-marks-item.is Free in
    left_next (answers c.args.marks.now) cs c.loop-item.item c.loop-item.left.items c.in_ok-one.one (omega arith) (c.loop-item.invariant cs many)
    (ap (λ m. leaves (mark.answer_of (mark_of m))) (sym at) ∙ c.in_ok-one.ensures)
    ∙ ap Some (sym c.in_ok-push.ensures.items)
