use Rattle.std.proofs.Common.{◌≡◌, ◌<◌, ℕ, length, map, set, get_or, slice_get, Option, Some, None, Result, Ok, Err, refl, sym, ap, ◌∙◌, subst, arith}
use Rattle.std.specs.Arc.{arc_value}
use Rattle.kernel_gate.specs.declared.fault.KernelFault.{KernelFault}
use Rattle.nested_jobs.specs.Marks as mark
use Rattle.pisdf_meaning.specs.declared.refusal.Cause.TheVariants as cause
use Rattle.job_preparing.specs.Handing.{answer_with, lent_at, mark_at}
use Rattle.job_preparing.specs.Invariants.{IsConfiguring, view_of}
use Rattle.job_preparing.specs.Stages.{mark_of, spare_in}
use Rattle.job_preparing.specs.View.{ConfiguringView, task}
use Rattle.job_preparing.specs.declared.configuring.Configuring.TheInside.{Inside}
use Rattle.job_preparing.specs.declared.stage.Stage.{Stage}
use Rattle.job_preparing.specs.declared.stage.Stage.TheVariants.{Refused}
use Rattle.job_preparing.proofs.Events.{both_after, finish_room, given_keeps, given_mark, kept_lent, out, refused_keeps, refused_mark}
use Rattle.job_preparing.proofs.Marked.{marked_inside}
use Rattle.job_preparing.proofs.Reading.{element}
use Rattle.job_preparing.proofs.configuring.Configuring.finish.Goals as goal

module _ (i : Inside) (kept : IsConfiguring i) (n : ℕ) (old : ConfiguringView) (was : view_of i ≡ old) (busy : mark_at old.marks n ≡ mark.Busy) (s : Stage) (read : s ≡ get_or i.stages.items n s) where
  is_busy : mark_at (map mark_of i.stages.items) n ≡ mark.Busy
  is_busy = ap (λ (v : ConfiguringView). mark_at v.marks n) was ∙ busy

  stage_is : slice_get i.stages.items n ≡ Some s
  stage_is = element i.stages.items n s (marked_inside i.stages.items n (λ free. (let e : mark.Busy ≡ mark.Free = sym is_busy ∙ free in cc))) read

pub kernel_given-given-requires-clause-whole : goal.kernel_given-given-requires-clause-whole
kernel_given-given-requires-clause-whole c = (out (arc_value c.self.inside.graphs) c.self.inside.firing c.self.inside.early c.self.inside.places.items c.self.inside.stages.items c.self.inside.frames.items c.self.inside.left.items c.self.inside.traces.items c.self.invariant c.args.c c.index_mut.result.now (stage_is c.self.inside c.self.invariant c.args.c c.args.self.now c.self.view_is c.requires.busy c.index_mut.result.now c.index_mut.ensures.value) c.replace.new.dest c.args.frame (is_busy c.self.inside c.self.invariant c.args.c c.args.self.now c.self.view_is c.requires.busy c.index_mut.result.now c.index_mut.ensures.value) (ap (λ (v : ConfiguringView). lent_at v.lent c.args.c) c.self.view_is ∙ c.requires.lent) c.spare_of-spare.result (ap spare_in (sym c.replace.ensures.value) ∙ c.spare_of-spare.ensures)).whole

pub kernel_given-given-requires-clause-empty : goal.kernel_given-given-requires-clause-empty
kernel_given-given-requires-clause-empty c = (out (arc_value c.self.inside.graphs) c.self.inside.firing c.self.inside.early c.self.inside.places.items c.self.inside.stages.items c.self.inside.frames.items c.self.inside.left.items c.self.inside.traces.items c.self.invariant c.args.c c.index_mut.result.now (stage_is c.self.inside c.self.invariant c.args.c c.args.self.now c.self.view_is c.requires.busy c.index_mut.result.now c.index_mut.ensures.value) c.replace.new.dest c.args.frame (is_busy c.self.inside c.self.invariant c.args.c c.args.self.now c.self.view_is c.requires.busy c.index_mut.result.now c.index_mut.ensures.value) (ap (λ (v : ConfiguringView). lent_at v.lent c.args.c) c.self.view_is ∙ c.requires.lent) c.spare_of-spare.result (ap spare_in (sym c.replace.ensures.value) ∙ c.spare_of-spare.ensures)).has.empty

pub kernel_given-given-requires-clause-room : goal.kernel_given-given-requires-clause-room
kernel_given-given-requires-clause-room c = finish_room (arc_value c.self.inside.graphs) c.self.inside.firing c.self.inside.early c.self.inside.places.items c.self.inside.stages.items c.self.inside.frames.items c.self.inside.left.items c.self.inside.traces.items c.self.invariant c.args.c c.index_mut.result.now (stage_is c.self.inside c.self.invariant c.args.c c.args.self.now c.self.view_is c.requires.busy c.index_mut.result.now c.index_mut.ensures.value) c.replace.new.dest c.args.frame (is_busy c.self.inside c.self.invariant c.args.c c.args.self.now c.self.view_is c.requires.busy c.index_mut.result.now c.index_mut.ensures.value) (ap (λ (v : ConfiguringView). lent_at v.lent c.args.c) c.self.view_is ∙ c.requires.lent) c.spare_of-spare.result (ap spare_in (sym c.replace.ensures.value) ∙ c.spare_of-spare.ensures)

pub invariant_of-self : goal.invariant_of-self
invariant_of-self c =
    given_keeps (arc_value c.self.inside.graphs) c.self.inside.firing c.self.inside.early c.self.inside.places.items c.self.inside.stages.items c.self.inside.frames.items c.self.inside.left.items c.self.inside.traces.items c.self.invariant c.args.c c.index_mut.result.now (stage_is c.self.inside c.self.invariant c.args.c c.args.self.now c.self.view_is c.requires.busy c.index_mut.result.now c.index_mut.ensures.value) c.replace.new.dest c.args.frame (is_busy c.self.inside c.self.invariant c.args.c c.args.self.now c.self.view_is c.requires.busy c.index_mut.result.now c.index_mut.ensures.value) (ap (λ (v : ConfiguringView). lent_at v.lent c.args.c) c.self.view_is ∙ c.requires.lent) c.spare_of-spare.result (ap spare_in (sym c.replace.ensures.value) ∙ c.spare_of-spare.ensures)
    c.kernel_given-given.result c.keep.result c.keep.new.left c.keep.new.trace c.kernel_given-given.ensures.given c.kernel_given-given.ensures.long c.keep.ensures.stage c.keep.ensures.left c.keep.ensures.trace

pub end-requires : goal.end-requires
end-requires c = record { whole = (out (arc_value c.self.inside.graphs) c.self.inside.firing c.self.inside.early c.self.inside.places.items c.self.inside.stages.items c.self.inside.frames.items c.self.inside.left.items c.self.inside.traces.items c.self.invariant c.args.c c.index_mut.result.now (stage_is c.self.inside c.self.invariant c.args.c c.args.self.now c.self.view_is c.requires.busy c.index_mut.result.now c.index_mut.ensures.value) c.replace.new.dest c.args.frame (is_busy c.self.inside c.self.invariant c.args.c c.args.self.now c.self.view_is c.requires.busy c.index_mut.result.now c.index_mut.ensures.value) (ap (λ (v : ConfiguringView). lent_at v.lent c.args.c) c.self.view_is ∙ c.requires.lent) c.spare_of-spare.result (ap spare_in (sym c.replace.ensures.value) ∙ c.spare_of-spare.ensures)).whole }

pub invariant_of-self-in-Err-1 : goal.invariant_of-self-in-Err-1
invariant_of-self-in-Err-1 c =
    refused_keeps (arc_value c.self.inside.graphs) c.self.inside.firing c.self.inside.early c.self.inside.places.items c.self.inside.stages.items c.self.inside.frames.items c.self.inside.left.items c.self.inside.traces.items c.self.invariant c.args.c c.index_mut.result.now (stage_is c.self.inside c.self.invariant c.args.c c.args.self.now c.self.view_is c.requires.busy c.index_mut.result.now c.index_mut.ensures.value) c.replace.new.dest (record { path = c.spare_of-spare.result.path; cause = cause.Kernel c.spare_of-spare.result.name 0 c.in-Err.fault.code })

pub returns-in-Ok : goal.returns-in-Ok
returns-in-Ok c =
    let made = given_mark (arc_value c.self.inside.graphs) c.self.inside.firing c.self.inside.early c.self.inside.places.items c.self.inside.stages.items c.self.inside.frames.items c.self.inside.left.items c.self.inside.traces.items c.self.invariant c.args.c c.index_mut.result.now (stage_is c.self.inside c.self.invariant c.args.c c.args.self.now c.self.view_is c.requires.busy c.index_mut.result.now c.index_mut.ensures.value) c.replace.new.dest c.args.frame (is_busy c.self.inside c.self.invariant c.args.c c.args.self.now c.self.view_is c.requires.busy c.index_mut.result.now c.index_mut.ensures.value) (ap (λ (v : ConfiguringView). lent_at v.lent c.args.c) c.self.view_is ∙ c.requires.lent) c.spare_of-spare.result (ap spare_in (sym c.replace.ensures.value) ∙ c.spare_of-spare.ensures)
    c.kernel_given-given.result c.keep.result c.in-Ok.field-0 c.kernel_given-given.ensures.given c.keep.ensures.stage in
    let mark_is : mark_of c.keep.result ≡ mark.Done (answer_with (task c.args.self.now c.args.c) c.args.frame c.args.answer) =
    made ∙ ap (λ (v : ConfiguringView). mark.Done (answer_with (task v c.args.c) c.args.frame (Ok c.in-Ok.field-0))) c.self.view_is ∙ ap (λ (r : Result (Unit {0}) KernelFault). mark.Done (answer_with (task c.args.self.now c.args.c) c.args.frame r)) (sym c.in-Ok.is) in
    both_after (arc_value c.self.inside.graphs) c.self.inside.firing c.self.inside.early c.self.inside.places.items c.self.inside.stages.items c.self.inside.frames.items c.self.inside.left.items c.self.inside.traces.items c.self.invariant c.args.c c.index_mut.result.now (stage_is c.self.inside c.self.invariant c.args.c c.args.self.now c.self.view_is c.requires.busy c.index_mut.result.now c.index_mut.ensures.value) c.replace.new.dest c.args.self.now c.self.view_is c.keep.result _ None mark_is (kept_lent c.kernel_given-given.result c.keep.result c.keep.ensures.stage)

pub returns-in-Err : goal.returns-in-Err
returns-in-Err c =
    let made = refused_mark (arc_value c.self.inside.graphs) c.self.inside.firing c.self.inside.early c.self.inside.places.items c.self.inside.stages.items c.self.inside.frames.items c.self.inside.left.items c.self.inside.traces.items c.self.invariant c.args.c c.index_mut.result.now (stage_is c.self.inside c.self.invariant c.args.c c.args.self.now c.self.view_is c.requires.busy c.index_mut.result.now c.index_mut.ensures.value) c.replace.new.dest c.args.frame (is_busy c.self.inside c.self.invariant c.args.c c.args.self.now c.self.view_is c.requires.busy c.index_mut.result.now c.index_mut.ensures.value) (ap (λ (v : ConfiguringView). lent_at v.lent c.args.c) c.self.view_is ∙ c.requires.lent) c.spare_of-spare.result (ap spare_in (sym c.replace.ensures.value) ∙ c.spare_of-spare.ensures) c.in-Err.fault in
    let mark_is : mark_of (Refused record { path = c.spare_of-spare.result.path; cause = cause.Kernel c.spare_of-spare.result.name 0 c.in-Err.fault.code }) ≡ mark.Done (answer_with (task c.args.self.now c.args.c) c.args.frame c.args.answer) =
    made ∙ ap (λ (v : ConfiguringView). mark.Done (answer_with (task v c.args.c) c.args.frame (Err c.in-Err.fault))) c.self.view_is ∙ ap (λ (r : Result (Unit {0}) KernelFault). mark.Done (answer_with (task c.args.self.now c.args.c) c.args.frame r)) (sym c.in-Err.is) in
    both_after (arc_value c.self.inside.graphs) c.self.inside.firing c.self.inside.early c.self.inside.places.items c.self.inside.stages.items c.self.inside.frames.items c.self.inside.left.items c.self.inside.traces.items c.self.invariant c.args.c c.index_mut.result.now (stage_is c.self.inside c.self.invariant c.args.c c.args.self.now c.self.view_is c.requires.busy c.index_mut.result.now c.index_mut.ensures.value) c.replace.new.dest c.args.self.now c.self.view_is (Refused record { path = c.spare_of-spare.result.path; cause = cause.Kernel c.spare_of-spare.result.name 0 c.in-Err.fault.code }) _ None mark_is refl
