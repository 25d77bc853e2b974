use Rattle.std.proofs.Common.{List, refl, set, sym, ap, ◌∙◌, subst}
use Rattle.std.proofs.lemmas.List.{get_or-set_same}
use Rattle.one_job.specs.Marks.{Mark, Free, Claimed, Finished, mark_at}
use Rattle.one_job.specs.View.{JobView}
use Rattle.kernel_gate.specs.Value.{FrameView, Places}
use Rattle.job_calls.specs.Held.{KeepsHeld}
use Rattle.job_calls.proofs.HeldSteps.{passed_kept, passed_only}
use Rattle.job_calls.proofs.steps.pass.Goals as goal

pub finish-requires-clause-claimed : goal.finish-requires-clause-claimed
finish-requires-clause-claimed c =
    let j = c.args.job.now in
    let n = c.args.node in
    let marks_are = ap (λ (v : JobView). v.marks) c.claim.ensures.claimed in
    let places_are = c.copy_through-copied.ensures ∙ ap (λ (f : FrameView). f.places) c.count_ports-frame.ensures.frame in
    ap (λ (ms : List Mark). mark_at ms n) marks_are
    ∙ (get_or-set_same j.marks n (Claimed c.claim.result.places) Free c.requires.marked ∙ ap (λ (p : Places). Claimed p) (sym places_are))

pub returns : goal.returns
returns c =
    let j = c.args.job.now in
    let n = c.args.node in
    let outs = c.copy_through-copied.new.frame.outputs in
    let places = c.claim.result.places in
    let now_is = c.finish.ensures.finished ∙ ap (λ (v : JobView). record v { marks = set v.marks n (Finished outs) }) c.claim.ensures.claimed in
    subst (KeepsHeld j) (sym now_is) record {
      same = refl;
      kept = passed_kept j.marks n c.requires.enabled.unclaimed places outs;
      only = passed_only j.marks n c.requires.enabled.unclaimed places outs;
    }
