use Rattle.std.proofs.Common.{sym, ap, ◌∙◌, subst}
use Rattle.job_preparing.specs.CompileTasks.{CompileView}
use Rattle.job_preparing.specs.Tasked.{EndsTask, IsThere, IsWay, task_view, way_view}
use Rattle.job_preparing.specs.declared.compile_task.Way.{Way}
use Rattle.job_preparing.specs.declared.compile_task.Way.TheVariants.{Kept, Make}
use Rattle.job_preparing.proofs.Ends.{only_ready, only_refused}
use Rattle.job_preparing.proofs.compile_task.CompileTask.run.Goals as goal

there : (way : Way) → IsWay way → IsThere (way_view way)
there (Kept task) is = is.here
there (Make parts) is = is.here

pub returns-in-Kept-clause-only_ready : goal.returns-in-Kept-clause-only_ready
returns-in-Kept-clause-only_ready c = λ one set values ready.
    let v : CompileView = c.args.self.now in
    let here = subst IsThere c.self.view_is (there c.self.inside.way c.self.invariant) in
    let end = subst (λ (x : CompileView). EndsTask x c.kept_level.result) (ap way_view (sym c.in-Kept.is) ∙ c.self.view_is) c.kept_level.ensures in
    only_ready v.graphs.graphs v.firing v.left here c.one_compilation.ensures v.workers c.kept_level.result end one set values ready

pub returns-in-Kept-clause-only_refused : goal.returns-in-Kept-clause-only_refused
returns-in-Kept-clause-only_refused c = λ cause refused.
    let v : CompileView = c.args.self.now in
    let here = subst IsThere c.self.view_is (there c.self.inside.way c.self.invariant) in
    let end = subst (λ (x : CompileView). EndsTask x c.kept_level.result) (ap way_view (sym c.in-Kept.is) ∙ c.self.view_is) c.kept_level.ensures in
    only_refused v.graphs.graphs v.firing v.left here v.workers c.kept_level.result end cause refused

pub returns-in-Make-clause-only_ready : goal.returns-in-Make-clause-only_ready
returns-in-Make-clause-only_ready c = λ one set values ready.
    let v : CompileView = c.args.self.now in
    let here = subst IsThere c.self.view_is (there c.self.inside.way c.self.invariant) in
    let end = subst (λ (x : CompileView). EndsTask x c.make_level.result) (ap task_view c.deref.ensures ∙ ap way_view (sym c.in-Make.is) ∙ c.self.view_is) c.make_level.ensures in
    only_ready v.graphs.graphs v.firing v.left here c.one_compilation.ensures v.workers c.make_level.result end one set values ready

pub returns-in-Make-clause-only_refused : goal.returns-in-Make-clause-only_refused
returns-in-Make-clause-only_refused c = λ cause refused.
    let v : CompileView = c.args.self.now in
    let here = subst IsThere c.self.view_is (there c.self.inside.way c.self.invariant) in
    let end = subst (λ (x : CompileView). EndsTask x c.make_level.result) (ap task_view c.deref.ensures ∙ ap way_view (sym c.in-Make.is) ∙ c.self.view_is) c.make_level.ensures in
    only_refused v.graphs.graphs v.firing v.left here v.workers c.make_level.result end cause refused
