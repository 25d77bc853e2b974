use Rattle.std.proofs.Common.{sym, subst, ◌∙◌, set}
use Rattle.std.proofs.lemmas.List.{length-set}
use Rattle.std.specs.Prelude.{List, Option, None}
use Rattle.kernel_gate.specs.Value.{FrameView}
use Rattle.one_job.specs.View.{JobView}
use Rattle.one_job.specs.Calls.{finished_with}
use Rattle.job_calls.specs.Held.{Holds}
use Rattle.job_calls.proofs.HeldSteps.{held_finished, ended_unclaimed}
use Rattle.job_calls.proofs.steps.finish.Goals as goal

pub returns : goal.returns
returns c =
    let j = c.args.job.now in
    let n = c.in_ok-node.node in
    let frames = c.args.frames.now in
    let frame = c.write.new.frame in
    let answer = c.answer_with-answer.result in
    subst (λ (fs : List (Option FrameView)). Holds c.finish.new.self fs) (sym c.take_frame.ensures.rest)
    (subst (λ (v : JobView). Holds v (set frames n None)) (sym c.finish.ensures.finished)
    record {
      one_each = length-set frames n None ∙ c.requires.one_each;
      held = held_finished j.marks frames c.requires.held n (finished_with frame answer) (ended_unclaimed frame answer) (c.take_frame.result, c.take_frame.ensures.frame);
    })
