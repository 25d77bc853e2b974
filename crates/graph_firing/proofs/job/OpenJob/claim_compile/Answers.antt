use Rattle.std.proofs.Common.{sym, ap, ◌∙◌, subst}
use Rattle.graph_firing.proofs.CompileSteps.{claim_keeps, claim_view, no_nodes_waiting, ready_so, suits_so, task_view, waits}
use Rattle.job_preparing.specs.Levels.{compilation_in}
use Rattle.graph_firing.specs.Invariants.{KeepsWith, view_with}
use Rattle.graph_firing.specs.declared.stage.Stage.{Stage}
use Rattle.graph_firing.proofs.There.{compilation_there}
use Rattle.graph_firing.proofs.job.OpenJob.claim_compile.Goals as goal

pub compile_task-requires-clause-ready : goal.compile_task-requires-clause-ready
compile_task-requires-clause-ready c =
    let i = c.self.inside in
    ready_so i.configuring i.workers i.stage c.self.invariant c.args.self.now c.self.view_is c.requires.offered.ready

pub go_on-requires : goal.go_on-requires
go_on-requires c =
    let i = c.self.inside in
    no_nodes_waiting i.configuring i.workers i.stage c.self.invariant c.args.self.now c.self.view_is (waits i.configuring i.workers i.stage c.self.invariant c.args.self.now c.self.view_is c.requires.offered.free)

pub invariant_of-self : goal.invariant_of-self
invariant_of-self c =
    let i = c.self.inside in
    let K : Stage → Type 0 = λ s. KeepsWith i.configuring i.workers s in subst K (sym c.go_on.ensures) (claim_keeps i.configuring i.workers i.stage c.self.invariant c.args.self.now c.self.view_is (ready_so i.configuring i.workers i.stage c.self.invariant c.args.self.now c.self.view_is c.requires.offered.ready))

pub returns-clause-task : goal.returns-clause-task
returns-clause-task c =
    let i = c.self.inside in
    c.in_ok-task.ensures ∙ task_view i.configuring i.workers i.stage c.self.invariant c.args.self.now c.self.view_is (compilation_in c.args.at_hand)

pub returns-clause-claimed : goal.returns-clause-claimed
returns-clause-claimed c =
    let i = c.self.inside in
    ap (view_with i.configuring i.workers) c.go_on.ensures ∙ claim_view i.configuring i.workers i.stage c.self.invariant c.args.self.now c.self.view_is (waits i.configuring i.workers i.stage c.self.invariant c.args.self.now c.self.view_is c.requires.offered.free)

pub returns-clause-there : goal.returns-clause-there
returns-clause-there c =
    let i = c.self.inside in
    compilation_there i.configuring i.workers i.stage c.self.invariant c.args.self.now c.self.view_is

pub compile_task-requires-clause-suits : goal.compile_task-requires-clause-suits
compile_task-requires-clause-suits c =
    let i = c.self.inside in
    suits_so i.configuring i.workers i.stage c.self.invariant c.args.self.now c.self.view_is c.args.at_hand c.requires.suits
