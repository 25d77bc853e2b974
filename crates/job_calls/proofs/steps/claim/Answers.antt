use Rattle.std.proofs.Common.{◌<◌, length, set, sym, ◌∙◌, subst, arith}
use Rattle.std.specs.Prelude.{List, Option, Some}
use Rattle.kernel_gate.specs.Value.{FrameView}
use Rattle.one_job.specs.Marks.{Claimed}
use Rattle.one_job.specs.View.{JobView}
use Rattle.job_calls.specs.Held.{Holds, HoldClaimed}
use Rattle.job_calls.proofs.HeldSteps.{held_claimed}
use Rattle.job_calls.proofs.steps.claim.Goals as goal

pub returns : goal.returns
returns c =
    let j = c.args.job.now in
    let n = c.in_ok-node.node in
    let inside : n < length c.args.frames.now = omega (arith, c.in_ok-node.ensures.there, c.requires.one_each) in
    let frame_is = c.count_ports-counted.ensures.frame in
    let held = subst (λ (f : FrameView). HoldClaimed (set j.marks n (Claimed c.claim.result.places)) (set c.args.frames.now n (Some f))) (sym frame_is)
    (held_claimed j.marks c.args.frames.now c.requires.held n c.claim.result c.in_ok-node.ensures.marked inside) in
    subst (λ (fs : List (Option FrameView)). Holds c.claim.new.self fs) (sym c.put_frame.ensures)
    (subst (λ (v : JobView). Holds v (set c.args.frames.now n (Some c.count_ports-counted.result.frame))) (sym c.claim.ensures.claimed)
    record {
      one_each = Rattle.std.proofs.lemmas.List.length-set c.args.frames.now n (Some c.count_ports-counted.result.frame) ∙ c.requires.one_each;
      held = held;
    })
