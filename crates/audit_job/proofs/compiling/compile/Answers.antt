use Rattle.std.proofs.Common.{◌≡◌, ℕ, List, ap, sym, ◌∙◌, subst}
use Rattle.std.specs.Arc.{arc_value}
use Rattle.job_compiler.specs.Compilation.{Compilation}
use Rattle.job_preparing.specs.CompileTasks.{IsReadyWith, schedule_of}
use Rattle.job_rules.specs.Doing as doing
use Rattle.job_rules.specs.Words as words
use Rattle.level_schedule.specs.declared.scheduling.LevelSchedule.{LevelSchedule}
use Rattle.pisdf_meaning.specs.declared.firing.Configured.{Configured}
use Rattle.pisdf_model.specs.declared.graph.Graph.{Graph}
use Rattle.audit_job.specs.Compiling.{IsNew}
use Rattle.job_preparing.proofs.Compiled.{schedules_here}
use Rattle.audit_job.proofs.compiling.compile.Goals as goal

pub returns-in-Ok : goal.returns-in-Ok
returns-in-Ok c =
    let firing = c.args.firing.now in
    let left = c.args.left.items in
    let made : IsReadyWith c.args.graphs.now.graphs c.args.workers firing left (arc_value c.in-Ok.made.compiled) c.in-Ok.made.set c.in-Ok.made.values = subst (λ (l : List Configured). IsReadyWith c.args.graphs.now.graphs c.args.workers firing l (arc_value c.in-Ok.made.compiled) c.in-Ok.made.set c.in-Ok.made.values) c.deref.ensures.value c.in-Ok.ensures.made in
    let raw = c.in_ok-nodes-in-Ok.ensures in
    let N : List Graph → ℕ → Compilation → Type 0 = λ graphs workers x. IsNew graphs workers firing left x c.in_ok-nodes-in-Ok.nodes in
    let here : N c.args.graphs.now.graphs (arc_value c.in-Ok.made.compiled).workers (arc_value c.in-Ok.made.compiled) = subst (λ (graphs : List Graph). N graphs (arc_value c.in-Ok.made.compiled).workers (arc_value c.in-Ok.made.compiled)) c.items-all.ensures raw in
    let own : N c.args.graphs.now.graphs c.args.workers (arc_value c.in-Ok.made.compiled) = subst (λ (workers : ℕ). N c.args.graphs.now.graphs workers (arc_value c.in-Ok.made.compiled)) made.workers_are here in
    let new : N c.args.graphs.now.graphs c.args.workers (arc_value c.in_ok-nodes-in-Ok.nodes.compiled) = subst (λ (x : Compilation). N c.args.graphs.now.graphs c.args.workers x) (sym own.compiled_is) own in
    let schedule : c.in_ok-schedule-in-Ok.schedule ≡ schedule_of (arc_value c.in-Ok.made.compiled) = c.in_ok-schedule-in-Ok.ensures ∙ ap schedule_of c.deref-in-Ok.ensures in
    record {
      answered = subst (λ (x : LevelSchedule). doing.IsCompiled c.args.graphs.now.graphs firing left (words.Schedules x)) (sym schedule)
          (schedules_here c.args.graphs.now.graphs c.args.workers firing left (arc_value c.in-Ok.made.compiled) c.in-Ok.made.set c.in-Ok.made.values made c.requires.here);
      nodes = (ap words.Schedules (schedule ∙ ap schedule_of (sym own.compiled_is)), new);
    }
