use Rattle.std.proofs.Common.{rules, ◌≡◌, length, set, sym, ap, ◌∙◌, subst}
use Rattle.one_job.specs.Marks.{Finished, mark_at}
use Rattle.one_job.specs.View.{JobView}
use Rattle.graph_firing.specs.Nodes.Parts.{HoldClaimed}
use Rattle.graph_firing.proofs.OfNodes.HeldFrames.{last_claimed, none_claimed, none_in, none_last, some_last, waits_in}
use Rattle.graph_firing.proofs.nodes.frames.end_frames.Goals as goal

pub finish-requires-clause-claimed : goal.finish-requires-clause-claimed
finish-requires-clause-claimed c =
    let rest = c.pop.new.self.items in
    let held = subst (HoldClaimed c.loop-held.job.marks) c.in-Some.ensures.items c.loop-held.invariant.held in
    let e : c.len-node.result ≡ length rest = search rules in
    ap (mark_at c.loop-held.job.marks) e ∙ last_claimed c.loop-held.job.marks rest c.in-Some.held held c.in-Some-waiting_frame.frame (waits_in c.in-Some.held c.in-Some-waiting_frame.frame (sym c.waiting_frame.ensures ∙ c.in-Some-waiting_frame.is))

pub loop-held-preserved-in-Some-waiting_frame : goal.loop-held-preserved-in-Some-waiting_frame
loop-held-preserved-in-Some-waiting_frame c =
    let rest = c.pop.new.self.items in
    let held = subst (HoldClaimed c.loop-held.job.marks) c.in-Some.ensures.items c.loop-held.invariant.held in
    let e : c.len-node.result ≡ length rest = search rules in
    let marks_are = ap (λ (j : JobView). j.marks) c.finish.ensures.finished ∙ ap (λ i. set c.loop-held.job.marks i (Finished c.in-Some-waiting_frame.frame.outputs)) e in
    record {
      held = subst (λ marks. HoldClaimed marks rest) (sym marks_are) (some_last c.loop-held.job.marks rest c.in-Some.held held c.in-Some-waiting_frame.frame (waits_in c.in-Some.held c.in-Some-waiting_frame.frame (sym c.waiting_frame.ensures ∙ c.in-Some-waiting_frame.is)));
      few = search rules;
    }

pub loop-held-preserved : goal.loop-held-preserved
loop-held-preserved c =
    let rest = c.pop.new.self.items in
    let held = subst (HoldClaimed c.loop-held.job.marks) c.in-Some.ensures.items c.loop-held.invariant.held in
    record { held = none_last c.loop-held.job.marks rest c.in-Some.held held (none_in c.in-Some.held (sym c.waiting_frame.ensures ∙ c.in-None.is)); few = search rules }

pub returns : goal.returns
returns c = none_claimed c.loop-held.job.marks c.loop-held.all.items c.loop-held.invariant.held (search rules)
