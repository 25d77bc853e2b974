use Rattle.std.proofs.Common.{sym, subst}
use Rattle.graph_firing.specs.declared.stage.Stage.TheVariants.{Waiting, Compiling, Refused, Nodes}
use Rattle.graph_firing.specs.Calls.{PlacedIn}
use Rattle.graph_firing.proofs.Lent.{cells_are, lends_compiling, lends_nodes, lends_refused, lends_waiting}
use Rattle.graph_firing.proofs.Owners.{one_owner}
use Rattle.graph_firing.proofs.job.OpenJob.compiled.Goals as goal

pub returns-in-Nodes-clause-value : goal.returns-in-Nodes-clause-value
returns-in-Nodes-clause-value c =
    let i = c.self.inside in
    subst (PlacedIn c.compiled.result.now) (sym (cells_are i.configuring i.workers i.stage c.self.invariant c.args.self.now c.self.view_is c.own_blocks.ensures (Nodes c.in-Nodes.running) c.in-Nodes.is)) (sym c.compiled.ensures.value)

pub returns-in-Nodes-clause-lends : goal.returns-in-Nodes-clause-lends
returns-in-Nodes-clause-lends c =
    let i = c.self.inside in
    lends_nodes i.configuring i.workers i.stage c.self.invariant c.args.self.now c.self.view_is c.own_blocks.ensures c.in-Nodes.running c.in-Nodes.is c.compiled.ensures.lends

pub returns-in-Nodes-clause-owners : goal.returns-in-Nodes-clause-owners
returns-in-Nodes-clause-owners c =
    let i = c.self.inside in
    one_owner c.cells_have_one_owner.ensures c.args.self.now (lends_nodes i.configuring i.workers i.stage c.self.invariant c.args.self.now c.self.view_is c.own_blocks.ensures c.in-Nodes.running c.in-Nodes.is c.compiled.ensures.lends)

pub returns-in-Waiting-clause-value : goal.returns-in-Waiting-clause-value
returns-in-Waiting-clause-value c =
    let i = c.self.inside in
    cells_are i.configuring i.workers i.stage c.self.invariant c.args.self.now c.self.view_is c.own_blocks.ensures Waiting c.in-Waiting.is

pub returns-in-Waiting-clause-lends : goal.returns-in-Waiting-clause-lends
returns-in-Waiting-clause-lends c =
    let i = c.self.inside in
    lends_waiting i.configuring i.workers i.stage c.self.invariant c.args.self.now c.self.view_is c.own_blocks.ensures c.in-Waiting.is

pub returns-in-Waiting-clause-owners : goal.returns-in-Waiting-clause-owners
returns-in-Waiting-clause-owners c =
    let i = c.self.inside in
    one_owner c.cells_have_one_owner.ensures c.args.self.now (lends_waiting i.configuring i.workers i.stage c.self.invariant c.args.self.now c.self.view_is c.own_blocks.ensures c.in-Waiting.is)

pub returns-in-Compiling-clause-value : goal.returns-in-Compiling-clause-value
returns-in-Compiling-clause-value c =
    let i = c.self.inside in
    cells_are i.configuring i.workers i.stage c.self.invariant c.args.self.now c.self.view_is c.own_blocks.ensures Compiling c.in-Compiling.is

pub returns-in-Compiling-clause-lends : goal.returns-in-Compiling-clause-lends
returns-in-Compiling-clause-lends c =
    let i = c.self.inside in
    lends_compiling i.configuring i.workers i.stage c.self.invariant c.args.self.now c.self.view_is c.own_blocks.ensures c.in-Compiling.is

pub returns-in-Compiling-clause-owners : goal.returns-in-Compiling-clause-owners
returns-in-Compiling-clause-owners c =
    let i = c.self.inside in
    one_owner c.cells_have_one_owner.ensures c.args.self.now (lends_compiling i.configuring i.workers i.stage c.self.invariant c.args.self.now c.self.view_is c.own_blocks.ensures c.in-Compiling.is)

pub returns-in-Refused-clause-value : goal.returns-in-Refused-clause-value
returns-in-Refused-clause-value c =
    let i = c.self.inside in
    cells_are i.configuring i.workers i.stage c.self.invariant c.args.self.now c.self.view_is c.own_blocks.ensures (Refused c.in-Refused.field-0) c.in-Refused.is

pub returns-in-Refused-clause-lends : goal.returns-in-Refused-clause-lends
returns-in-Refused-clause-lends c =
    let i = c.self.inside in
    lends_refused i.configuring i.workers i.stage c.self.invariant c.args.self.now c.self.view_is c.own_blocks.ensures c.in-Refused.field-0 c.in-Refused.is

pub returns-in-Refused-clause-owners : goal.returns-in-Refused-clause-owners
returns-in-Refused-clause-owners c =
    let i = c.self.inside in
    one_owner c.cells_have_one_owner.ensures c.args.self.now (lends_refused i.configuring i.workers i.stage c.self.invariant c.args.self.now c.self.view_is c.own_blocks.ensures c.in-Refused.field-0 c.in-Refused.is)
