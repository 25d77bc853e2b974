use Rattle.std.proofs.Common.{◌≡◌, ◌<◌, ℕ, List, length, map, set, get_or, slice_get, Option, Some, None, Result, Ok, Err, refl, sym, ap, ◌∙◌, subst, arith}
use Rattle.std.specs.Arc.{arc_value}
use Rattle.nested_jobs.specs.Marks as mark
use Rattle.pisdf_model.specs.declared.graph.Graphs.{Graphs}
use Rattle.pisdf_meaning.specs.declared.firing.Firing.{Firing}
use Rattle.pisdf_meaning.specs.declared.refusal.Refusal.{Refusal}
use Rattle.job_rules.specs.Words as words
use Rattle.job_preparing.specs.Handing.{EndSuits, SuitsCall, end_of, given_of, mark_at}
use Rattle.job_preparing.specs.Invariants.{IsConfiguring, view_of}
use Rattle.job_preparing.specs.Stages.{lent_of, line_in, mark_of}
use Rattle.job_preparing.specs.Standing.{Keeps}
use Rattle.job_preparing.specs.View.{ConfiguringView}
use Rattle.job_preparing.specs.declared.configuring.Configuring.TheInside.{Inside}
use Rattle.job_preparing.specs.declared.handing.JobGiven.{JobGiven}
use Rattle.job_preparing.specs.declared.stage.Stage.{Stage}
use Rattle.job_preparing.specs.declared.stage.Stage.TheVariants.{Refused}
use Rattle.job_preparing.proofs.Events.{call_given_keeps, called, kept_lent, kept_mark, line_room, marks_only, open_lent, open_mark, refused_keeps, the_view}
use Rattle.job_preparing.proofs.Marked.{marked_inside}
use Rattle.job_preparing.proofs.Reading.{element}
use Rattle.job_preparing.proofs.configuring.Configuring.finish_call.Goals as goal

module _ (i : Inside) (kept : IsConfiguring i) (n : ℕ) (old : ConfiguringView) (was : view_of i ≡ old) (job : Firing) (opened : mark_at old.marks n ≡ mark.Open job) (s : Stage) (read : s ≡ get_or i.stages.items n s) where
  is_open : mark_at (map mark_of i.stages.items) n ≡ mark.Open job
  is_open = ap (λ (v : ConfiguringView). mark_at v.marks n) was ∙ opened

  stage_is : slice_get i.stages.items n ≡ Some s
  stage_is = element i.stages.items n s (marked_inside i.stages.items n (λ free. (let e : mark.Open job ≡ mark.Free = sym is_open ∙ free in cc))) read

  lends_nothing : (between : Stage) → lent_of s ≡ None
  lends_nothing between = open_lent s job (open_mark (arc_value i.graphs) i.firing i.early i.places.items i.stages.items i.frames.items i.left.items i.traces.items kept n s stage_is between job is_open)

  suits_own : (given : JobGiven) (end : Result JobGiven Refusal) → end ≡ Ok given → EndSuits old.graphs.graphs job (end_of end) → SuitsCall (arc_value i.graphs).graphs job (given_of given)
  suits_own given end is suits =
      let P : Result JobGiven Refusal → Type 0 = λ e. EndSuits old.graphs.graphs job (end_of e) in
      let Q : ConfiguringView → Type 0 = λ v. SuitsCall v.graphs.graphs job (given_of given) in
      subst Q (sym was) (subst P is suits)

pub keep-next-requires-clause-empty : goal.keep-next-requires-clause-empty
keep-next-requires-clause-empty c = (called (arc_value c.self.inside.graphs) c.self.inside.firing c.self.inside.early c.self.inside.places.items c.self.inside.stages.items c.self.inside.frames.items c.self.inside.left.items c.self.inside.traces.items c.self.invariant c.args.c c.index_mut.result.now (stage_is c.self.inside c.self.invariant c.args.c c.args.self.now c.self.view_is c.requires.open.0 c.requires.open.1 c.index_mut.result.now c.index_mut.ensures.value) c.replace-stage.new.dest c.requires.open.0 (is_open c.self.inside c.self.invariant c.args.c c.args.self.now c.self.view_is c.requires.open.0 c.requires.open.1 c.index_mut.result.now c.index_mut.ensures.value) c.line_of-line.result (ap line_in (sym c.replace-stage.ensures.value) ∙ c.line_of-line.ensures)).empty

pub keep-next-requires-clause-room : goal.keep-next-requires-clause-room
keep-next-requires-clause-room c = line_room (arc_value c.self.inside.graphs) c.self.inside.firing c.self.inside.early c.self.inside.places.items c.self.inside.stages.items c.self.inside.frames.items c.self.inside.left.items c.self.inside.traces.items c.self.invariant c.args.c c.index_mut.result.now (stage_is c.self.inside c.self.invariant c.args.c c.args.self.now c.self.view_is c.requires.open.0 c.requires.open.1 c.index_mut.result.now c.index_mut.ensures.value) c.replace-stage.new.dest c.requires.open.0 (is_open c.self.inside c.self.invariant c.args.c c.args.self.now c.self.view_is c.requires.open.0 c.requires.open.1 c.index_mut.result.now c.index_mut.ensures.value) c.line_of-line.result (ap line_in (sym c.replace-stage.ensures.value) ∙ c.line_of-line.ensures) c.in-Ok.given (suits_own c.self.inside c.self.invariant c.args.c c.args.self.now c.self.view_is c.requires.open.0 c.requires.open.1 c.index_mut.result.now c.index_mut.ensures.value c.in-Ok.given c.args.end c.in-Ok.is c.requires.open.2)

pub invariant_of-self : goal.invariant_of-self
invariant_of-self c =
    let P : List Stage → Type 0 = λ l. Keeps (arc_value c.self.inside.graphs) c.self.inside.firing c.self.inside.early c.self.inside.places.items l c.self.inside.frames.items (set c.self.inside.left.items c.args.c c.keep-next.new.left) (set c.self.inside.traces.items c.args.c c.keep-next.new.trace) in
    subst P (sym c.put.ensures)
    (call_given_keeps (arc_value c.self.inside.graphs) c.self.inside.firing c.self.inside.early c.self.inside.places.items c.self.inside.stages.items c.self.inside.frames.items c.self.inside.left.items c.self.inside.traces.items c.self.invariant c.args.c c.index_mut.result.now (stage_is c.self.inside c.self.invariant c.args.c c.args.self.now c.self.view_is c.requires.open.0 c.requires.open.1 c.index_mut.result.now c.index_mut.ensures.value) c.replace-stage.new.dest c.requires.open.0 (is_open c.self.inside c.self.invariant c.args.c c.args.self.now c.self.view_is c.requires.open.0 c.requires.open.1 c.index_mut.result.now c.index_mut.ensures.value) c.line_of-line.result (ap line_in (sym c.replace-stage.ensures.value) ∙ c.line_of-line.ensures) c.in-Ok.given c.keep-next.result c.keep-next.new.left c.keep-next.new.trace (suits_own c.self.inside c.self.invariant c.args.c c.args.self.now c.self.view_is c.requires.open.0 c.requires.open.1 c.index_mut.result.now c.index_mut.ensures.value c.in-Ok.given c.args.end c.in-Ok.is c.requires.open.2) c.keep-next.ensures.stage c.keep-next.ensures.left c.keep-next.ensures.trace)

pub invariant_of-self-in-Err : goal.invariant_of-self-in-Err
invariant_of-self-in-Err c =
    let P : List Stage → Type 0 = λ l. Keeps (arc_value c.self.inside.graphs) c.self.inside.firing c.self.inside.early c.self.inside.places.items l c.self.inside.frames.items c.self.inside.left.items c.self.inside.traces.items in
    subst P (sym c.put-in-Err.ensures) (refused_keeps (arc_value c.self.inside.graphs) c.self.inside.firing c.self.inside.early c.self.inside.places.items c.self.inside.stages.items c.self.inside.frames.items c.self.inside.left.items c.self.inside.traces.items c.self.invariant c.args.c c.index_mut.result.now (stage_is c.self.inside c.self.invariant c.args.c c.args.self.now c.self.view_is c.requires.open.0 c.requires.open.1 c.index_mut.result.now c.index_mut.ensures.value) c.replace-stage.new.dest c.in-Err.refusal)

pub returns-in-Ok : goal.returns-in-Ok
returns-in-Ok c =
    let mark_is : mark_of c.keep-next.result ≡ mark.Done (words.answer_of (end_of c.args.end)) =
    kept_mark c.in-Ok.given c.keep-next.result c.keep-next.ensures.stage ∙ ap (λ (e : Result JobGiven Refusal). mark.Done (words.answer_of (end_of e))) (sym c.in-Ok.is) in
    ap (λ (l : List Stage). the_view (arc_value c.self.inside.graphs) c.self.inside.firing (map mark_of l) (map lent_of l)) c.put.ensures
    ∙ marks_only (arc_value c.self.inside.graphs) c.self.inside.firing c.self.inside.early c.self.inside.places.items c.self.inside.stages.items c.self.inside.frames.items c.self.inside.left.items c.self.inside.traces.items c.self.invariant c.args.c c.index_mut.result.now (stage_is c.self.inside c.self.invariant c.args.c c.args.self.now c.self.view_is c.requires.open.0 c.requires.open.1 c.index_mut.result.now c.index_mut.ensures.value) c.replace-stage.new.dest c.args.self.now c.self.view_is (lends_nothing c.self.inside c.self.invariant c.args.c c.args.self.now c.self.view_is c.requires.open.0 c.requires.open.1 c.index_mut.result.now c.index_mut.ensures.value c.replace-stage.new.dest) c.keep-next.result _ mark_is (kept_lent c.in-Ok.given c.keep-next.result c.keep-next.ensures.stage)

pub returns-in-Err : goal.returns-in-Err
returns-in-Err c =
    let mark_is : mark_of (Refused c.in-Err.refusal) ≡ mark.Done (words.answer_of (end_of c.args.end)) =
    ap (λ (e : Result JobGiven Refusal). mark.Done (words.answer_of (end_of e))) (sym c.in-Err.is) in
    ap (λ (l : List Stage). the_view (arc_value c.self.inside.graphs) c.self.inside.firing (map mark_of l) (map lent_of l)) c.put-in-Err.ensures
    ∙ marks_only (arc_value c.self.inside.graphs) c.self.inside.firing c.self.inside.early c.self.inside.places.items c.self.inside.stages.items c.self.inside.frames.items c.self.inside.left.items c.self.inside.traces.items c.self.invariant c.args.c c.index_mut.result.now (stage_is c.self.inside c.self.invariant c.args.c c.args.self.now c.self.view_is c.requires.open.0 c.requires.open.1 c.index_mut.result.now c.index_mut.ensures.value) c.replace-stage.new.dest c.args.self.now c.self.view_is (lends_nothing c.self.inside c.self.invariant c.args.c c.args.self.now c.self.view_is c.requires.open.0 c.requires.open.1 c.index_mut.result.now c.index_mut.ensures.value c.replace-stage.new.dest) (Refused c.in-Err.refusal) _ mark_is refl
