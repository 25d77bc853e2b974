use Rattle.std.proofs.Common.{rules, ◌≡◌, length, set, sym, ap, ◌∙◌, subst}
use Rattle.one_job.specs.Marks.{Finished, mark_at}
use Rattle.one_job.specs.View.{JobView}
use Rattle.job_calls.specs.Held.{HoldClaimed}
use Rattle.job_calls.proofs.HeldFrames.{last_claimed, none_last, some_last, none_claimed}
use Rattle.job_calls.proofs.places.end_frames.Goals as goal

pub finish-requires-clause-claimed : goal.finish-requires-clause-claimed
finish-requires-clause-claimed c =
    let rest = c.pop.new.self.items in
    let held = subst (HoldClaimed c.loop-place.job.marks) c.in-Some.ensures.items c.loop-place.invariant.held in
    let e : c.len-node.result ≡ length rest = search rules in
    ap (mark_at c.loop-place.job.marks) e ∙ last_claimed c.loop-place.job.marks rest c.in-Some.place held c.in-Some-place.frame c.in-Some-place.is

pub loop-place-preserved-in-Some-place : goal.loop-place-preserved-in-Some-place
loop-place-preserved-in-Some-place c =
    let rest = c.pop.new.self.items in
    let held = subst (HoldClaimed c.loop-place.job.marks) c.in-Some.ensures.items c.loop-place.invariant.held in
    let e : c.len-node.result ≡ length rest = search rules in
    let marks_are = ap (λ (j : JobView). j.marks) c.finish.ensures.finished ∙ ap (λ i. set c.loop-place.job.marks i (Finished c.in-Some-place.frame.outputs)) e in
    record {
      held = subst (λ marks. HoldClaimed marks rest) (sym marks_are) (some_last c.loop-place.job.marks rest c.in-Some.place held c.in-Some-place.frame c.in-Some-place.is);
      few = search rules;
    }

pub loop-place-preserved : goal.loop-place-preserved
loop-place-preserved c =
    let rest = c.pop.new.self.items in
    let held = subst (HoldClaimed c.loop-place.job.marks) c.in-Some.ensures.items c.loop-place.invariant.held in
    record { held = none_last c.loop-place.job.marks rest c.in-Some.place held c.in-None.is; few = search rules }

pub returns : goal.returns
returns c = none_claimed c.loop-place.job.marks c.loop-place.frames.items c.loop-place.invariant.held (search rules)
