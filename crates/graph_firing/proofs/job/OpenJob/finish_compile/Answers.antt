use Rattle.std.proofs.Common.{sym, subst}
use Rattle.graph_firing.specs.Calls.{FinishesCompilation}
use Rattle.graph_firing.specs.Invariants.{KeepsWith, view_with}
use Rattle.graph_firing.specs.declared.stage.Stage.{Stage}
use Rattle.graph_firing.proofs.CompileSteps.{compiles, end_is, finish_keeps, finish_view, no_nodes_compiling, ready_compiling}
use Rattle.graph_firing.proofs.job.OpenJob.finish_compile.Goals as goal

pub next_stage-requires-clause-ready : goal.next_stage-requires-clause-ready
next_stage-requires-clause-ready c =
    let i = c.self.inside in
    ready_compiling i.configuring i.workers i.stage c.self.invariant c.args.self.now c.self.view_is (compiles i.configuring i.workers i.stage c.self.invariant c.args.self.now c.self.view_is c.requires.busy)

pub next_stage-requires-clause-end : goal.next_stage-requires-clause-end
next_stage-requires-clause-end c =
    let i = c.self.inside in
    end_is i.configuring i.workers i.stage c.self.invariant c.args.self.now c.self.view_is c.args.end c.requires.end

pub go_on-requires : goal.go_on-requires
go_on-requires c =
    let i = c.self.inside in
    no_nodes_compiling i.configuring i.workers i.stage c.self.invariant c.args.self.now c.self.view_is (compiles i.configuring i.workers i.stage c.self.invariant c.args.self.now c.self.view_is c.requires.busy)

pub invariant_of-self : goal.invariant_of-self
invariant_of-self c =
    let i = c.self.inside in
    let K : Stage → Type 0 = λ s. KeepsWith i.configuring i.workers s in subst K (sym c.go_on.ensures) (finish_keeps i.configuring i.workers i.stage c.self.invariant c.args.self.now c.self.view_is c.args.end (compiles i.configuring i.workers i.stage c.self.invariant c.args.self.now c.self.view_is c.requires.busy) (end_is i.configuring i.workers i.stage c.self.invariant c.args.self.now c.self.view_is c.args.end c.requires.end) c.in_ok-next.next c.in_ok-next.ensures)

pub returns-clause-compiled : goal.returns-clause-compiled
returns-clause-compiled c =
    let i = c.self.inside in
    let F : Stage → Type 0 = λ s. FinishesCompilation c.args.end c.args.self.now (view_with i.configuring i.workers s) in subst F (sym c.go_on.ensures) (finish_view i.configuring i.workers i.stage c.self.invariant c.args.self.now c.self.view_is c.args.end (compiles i.configuring i.workers i.stage c.self.invariant c.args.self.now c.self.view_is c.requires.busy) (end_is i.configuring i.workers i.stage c.self.invariant c.args.self.now c.self.view_is c.args.end c.requires.end) c.in_ok-next.next c.in_ok-next.ensures)
