use Rattle.std.proofs.Common.{◌≡◌, ◌<◌, ℕ, length, map, set, get_or, slice_get, Option, Some, None, refl, sym, ap, ◌∙◌, subst, arith}
use Rattle.std.specs.Arc.{arc_value}
use Rattle.std.specs.Prelude.{IsSome}
use Rattle.std.proofs.lemmas.List.{get_or_read}
use Rattle.std.proofs.lemmas.Option.{slice_get_within}
use Rattle.kernel_gate.specs.Value.{FrameView}
use Rattle.nested_jobs.specs.Marks as mark
use Rattle.nested_jobs.specs.Rules.{Work}
use Rattle.job_preparing.specs.Handing.{IsFrameFor}
use Rattle.job_preparing.specs.Invariants.{view_of}
use Rattle.job_preparing.specs.Stages.{spare_in}
use Rattle.job_preparing.specs.Standing.{Keeps}
use Rattle.job_preparing.specs.View.{ConfiguringView, IsOfferedWork, task}
use Rattle.job_preparing.specs.declared.configuring.Configuring.TheInside.{Inside}
use Rattle.job_preparing.specs.declared.stage.Stage.{Stage}
use Rattle.job_preparing.specs.declared.stage.Stage.TheVariants.{Busy}
use Rattle.job_preparing.specs.Invariants.{IsConfiguring}
use Rattle.job_preparing.proofs.Events.{both_after, claim_keeps, frame_for, has_frame, has_spare}
use Rattle.job_preparing.proofs.Leaving.{some_of}
use Rattle.job_preparing.proofs.Offered.{stage_there}
use Rattle.job_preparing.proofs.Reading.{element}
use Rattle.job_preparing.proofs.configuring.Configuring.claim.Goals as goal

module _ (i : Inside) (kept : IsConfiguring i) (n : ℕ) (old : ConfiguringView) (was : view_of i ≡ old) (requires : IsOfferedWork old n) where
  offered : IsOfferedWork (view_of i) n
  offered = subst (λ (v : ConfiguringView). IsOfferedWork v n) (sym was) requires

  at : (s : Stage) × (slice_get i.stages.items n ≡ Some s)
  at = stage_there (arc_value i.graphs) i.firing i.early i.places.items i.stages.items i.frames.items i.left.items i.traces.items kept n (Work offered.work) offered.task_is

  inside : n < length i.stages.items
  inside = slice_get_within i.stages.items n at.0 at.1

  frames_inside : n < length i.frames.items
  frames_inside = let s = inside in let a = kept.one_stage in let b = kept.one_frame in omega arith

  waiting : (f : FrameView) × (get_or i.frames.items n None ≡ Some f)
  waiting = has_frame (arc_value i.graphs) i.firing i.early i.places.items i.stages.items i.frames.items i.left.items i.traces.items kept n at.0 at.1 at.0 offered

pub unreachable-requires : goal.unreachable-requires
unreachable-requires c =
    let f = waiting c.self.inside c.self.invariant c.args.c c.args.self.now c.self.view_is c.requires in
    let none : get_or c.self.inside.frames.items c.args.c None ≡ None =
    sym (get_or_read c.self.inside.frames.items c.args.c c.index_mut.result.now (frames_inside c.self.inside c.self.invariant c.args.c c.args.self.now c.self.view_is c.requires) c.index_mut.ensures.value None) ∙ sym c.in-None.ensures.value in
    let e : Some f.0 ≡ None = sym f.1 ∙ none in
    cc

pub index_mut-requires-2 : goal.index_mut-requires-2
index_mut-requires-2 c = let s = inside c.self.inside c.self.invariant c.args.c c.args.self.now c.self.view_is c.requires in omega (arith, c.self.inside.stages.ok.0)

pub index_mut-requires-3 : goal.index_mut-requires-3
index_mut-requires-3 c = let s = inside c.self.inside c.self.invariant c.args.c c.args.self.now c.self.view_is c.requires in omega (arith, c.self.inside.stages.ok.0)

pub spare_of-spare-requires : goal.spare_of-spare-requires
spare_of-spare-requires c =
    let is = element c.self.inside.stages.items c.args.c c.index_mut-2.result.now (inside c.self.inside c.self.invariant c.args.c c.args.self.now c.self.view_is c.requires) c.index_mut-2.ensures.value in
    let has = has_spare (arc_value c.self.inside.graphs) c.self.inside.firing c.self.inside.early c.self.inside.places.items c.self.inside.stages.items c.self.inside.frames.items c.self.inside.left.items c.self.inside.traces.items c.self.invariant c.args.c c.index_mut-2.result.now is c.index_mut-2.result.now (offered c.self.inside c.self.invariant c.args.c c.args.self.now c.self.view_is c.requires) in
    some_of (spare_in c.replace.result) has.0 (ap spare_in c.replace.ensures.value ∙ has.1)

frame_is : (c : goal.Joined-index_mut) → get_or c.self.inside.frames.items c.args.c None ≡ Some c.in-Some.frame
frame_is c = sym (get_or_read c.self.inside.frames.items c.args.c c.index_mut.result.now (frames_inside c.self.inside c.self.invariant c.args.c c.args.self.now c.self.view_is c.requires) c.index_mut.ensures.value None) ∙ sym c.in-Some.ensures.value

stage_is : (c : goal.Joined-index_mut) → slice_get c.self.inside.stages.items c.args.c ≡ Some c.index_mut-2.result.now
stage_is c = element c.self.inside.stages.items c.args.c c.index_mut-2.result.now (inside c.self.inside c.self.invariant c.args.c c.args.self.now c.self.view_is c.requires) c.index_mut-2.ensures.value

pub invariant_of-self : goal.invariant_of-self
invariant_of-self c =
    let kept = claim_keeps (arc_value c.self.inside.graphs) c.self.inside.firing c.self.inside.early c.self.inside.places.items c.self.inside.stages.items c.self.inside.frames.items c.self.inside.left.items c.self.inside.traces.items c.self.invariant c.args.c c.index_mut-2.result.now (stage_is c) c.replace.new.dest (offered c.self.inside c.self.invariant c.args.c c.args.self.now c.self.view_is c.requires) c.in-Some.frame (frame_is c)
    c.spare_of-spare.result (ap spare_in (sym c.replace.ensures.value) ∙ c.spare_of-spare.ensures) c.told_of.result c.told_of.ensures in
    let P : Option FrameView → Type 0 = λ f. Keeps (arc_value c.self.inside.graphs) c.self.inside.firing c.self.inside.early c.self.inside.places.items
    (set (set c.self.inside.stages.items c.args.c c.replace.new.dest) c.args.c (Busy c.told_of.result c.spare_of-spare.result)) (set c.self.inside.frames.items c.args.c f) c.self.inside.left.items c.self.inside.traces.items in
    subst P (sym c.in-Some.ensures.after) kept

pub returns-clause-frame : goal.returns-clause-frame
returns-clause-frame c =
    let P : ConfiguringView → Type 0 = λ v. IsFrameFor (task v c.args.c) c.in-Some.frame in
    subst P c.self.view_is (frame_for (arc_value c.self.inside.graphs) c.self.inside.firing c.self.inside.early c.self.inside.places.items c.self.inside.stages.items c.self.inside.frames.items c.self.inside.left.items c.self.inside.traces.items c.self.invariant c.args.c c.index_mut-2.result.now (stage_is c) c.replace.new.dest (offered c.self.inside c.self.invariant c.args.c c.args.self.now c.self.view_is c.requires) c.in-Some.frame (frame_is c))

pub returns-clause-claimed : goal.returns-clause-claimed
returns-clause-claimed c =
    both_after (arc_value c.self.inside.graphs) c.self.inside.firing c.self.inside.early c.self.inside.places.items c.self.inside.stages.items c.self.inside.frames.items c.self.inside.left.items c.self.inside.traces.items c.self.invariant c.args.c c.index_mut-2.result.now (stage_is c) c.replace.new.dest c.args.self.now c.self.view_is
    (Busy c.told_of.result c.spare_of-spare.result) mark.Busy (Some c.in-Some.frame.places) refl (ap (λ (f : FrameView). Some f.places) c.told_of.ensures)
