-- Calls of configuration actors, and what they answer.
use Rattle.std.proofs.Common.{◌≡◌, ◌≢◌, ℕ, ◌<◌, Option, Some, None, Result, Ok, Err, IfOk, OnErr, sym, ap, ◌∙◌, subst}
use Rattle.std.specs.declared.alloc.AllocError.{AllocError}
use Rattle.kernel_gate.specs.Value.{FrameView}
use Rattle.kernel_gate.specs.declared.fault.KernelFault.{KernelFault}
use Rattle.level_schedule.specs.declared.scheduling.LevelSchedule.{LevelSchedule}
use Rattle.nested_jobs.specs.Marks as mark
use Rattle.nested_jobs.specs.Marks.{Mark, Open, Done}
use Rattle.nested_jobs.specs.Rules.{Task, Work, Call}
use Rattle.pisdf_meaning.specs.declared.firing.Firing.{Firing}
use Rattle.pisdf_meaning.specs.declared.refusal.Refusal.{Refusal}
use Rattle.job_rules.specs.Words as words
use Rattle.job_rules.specs.Words.{Answer, Schedules, answer_of}
use Rattle.job_rules.specs.Items.{compile_number}
use Rattle.job_preparing.specs.Handing.{answer_with, end_of, fired_with, mark_at}
use Rattle.job_preparing.specs.View as preparing
use Rattle.job_preparing.specs.View.{ConfiguringView, HasInherited}
use Rattle.job_preparing.specs.declared.handing.JobGiven.{JobGiven}
use Rattle.graph_firing.specs.View.{OpenView, task}
use Rattle.graph_firing.specs.Calls.{with_item, with_mark}
use Rattle.graph_firing.specs.Invariants.{KeepsWith, view_with}
use Rattle.graph_firing.specs.declared.stage.Stage.{Stage}
use Rattle.graph_firing.proofs.Methods as methods
use Rattle.graph_firing.proofs.Steps as steps

-- ---- answers that are no schedules

abbrev done : Answer → Mark Firing Answer
done a = Done a

kernel_no_schedule : (spot : words.Spot) (frame : FrameView) (answer : Result (Unit {0}) KernelFault) (s : LevelSchedule) → done (fired_with spot frame answer) ≢ done (Schedules s)
kernel_no_schedule spot frame (Ok none) s e = cc
kernel_no_schedule spot frame (Err fault) s e = cc

pub never_schedules : (t : Option (Task Firing words.Work)) (frame : FrameView) (answer : Result (Unit {0}) KernelFault) (s : LevelSchedule) → done (answer_with t frame answer) ≢ done (Schedules s)
never_schedules None frame answer s e = cc
never_schedules (Some (Call job)) frame answer s e = cc
never_schedules (Some (Work (words.Fires spot asked))) frame answer s e = kernel_no_schedule spot frame answer s e
never_schedules (Some (Work (words.Copies node read lens))) frame answer s e = cc
never_schedules (Some (Work (words.Compiles firing left))) frame answer s e = cc

pub end_no_schedule : (end : Result JobGiven Refusal) (s : LevelSchedule) → done (answer_of (end_of end)) ≢ done (Schedules s)
end_no_schedule (Ok given) s e = cc
end_no_schedule (Err refusal) s e = cc

module _ (c : ConfiguringView) (workers : ℕ) (stage : Stage) (keeps : KeepsWith c workers stage) (v : OpenView) (is : view_with c workers stage ≡ v) (i : ℕ) (below : i < compile_number (preparing.graph_in c)) where
  -- a frame that comes back
  pub finish_view : (new : ConfiguringView) (frame : FrameView) (answer : Result (Unit {0}) KernelFault) → new ≡ steps.with_actor c workers stage keeps i below (Done (answer_with (preparing.task c i) frame answer)) None →
      view_with new workers stage ≡ with_item v i (Done (answer_with (task v i) frame answer)) None
  finish_view new frame answer same =
      methods.step_view c workers stage keeps v is i below new (Done (answer_with (preparing.task c i) frame answer)) None same
      ∙ ap (λ t. with_item v i (Done (answer_with t frame answer)) None) (sym (methods.actor_task c workers stage keeps v is i below))

  -- a call
  abbrev Opens : ConfiguringView → Result Firing AllocError → Type 0
  Opens new result = IfOk result (λ firing. new ≡ steps.with_actor_mark c workers stage keeps i below (Open firing))

  pub call_keeps : mark.answer_of (mark_at c.marks i) ≡ None → (new : ConfiguringView) (result : Result Firing AllocError) → Opens new result → OnErr result (new ≡ c) → KeepsWith new workers stage
  call_keeps unfinished new (Ok firing) opened refused = methods.step_keeps_mark c workers stage keeps v is i below new unfinished (Open firing) (λ s e. cc) opened
  call_keeps unfinished new (Err error) opened refused = let P : ConfiguringView → Type 0 = λ x. KeepsWith x workers stage in subst P (sym refused) keeps

  pub call_tasks : (result : Result Firing AllocError) → IfOk result (λ firing. preparing.task c i ≡ Some (Call firing)) → IfOk result (λ firing. task v i ≡ Some (Call firing))
  call_tasks (Ok firing) called = methods.actor_task c workers stage keeps v is i below ∙ called
  call_tasks (Err error) called = tt

  pub call_inherits : (result : Result Firing AllocError) → IfOk result (λ firing. HasInherited c.graphs.graphs firing) → IfOk result (λ firing. HasInherited v.graphs.graphs firing)
  call_inherits (Ok firing) inherited = let P : OpenView → Type 0 = λ x. HasInherited x.graphs.graphs firing in subst P is inherited
  call_inherits (Err error) inherited = tt

  pub call_view : (new : ConfiguringView) (result : Result Firing AllocError) → Opens new result → IfOk result (λ firing. view_with new workers stage ≡ with_mark v i (Open firing))
  call_view new (Ok firing) opened = methods.step_view_mark c workers stage keeps v is i below new (Open firing) opened
  call_view new (Err error) opened = tt
