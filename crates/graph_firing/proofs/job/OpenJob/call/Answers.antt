use Rattle.std.proofs.Common.{ap, arith}
use Rattle.nested_jobs.specs.Marks as mark
use Rattle.graph_firing.proofs.Methods.{actor_call}
use Rattle.graph_firing.proofs.NodeMethods.{above, call_ok, call_other, called_firing, called_inherited, called_keeps, called_view, uncalled_view}
use Rattle.graph_firing.proofs.ActorCalls.{call_inherits, call_keeps, call_tasks, call_view}
use Rattle.graph_firing.proofs.There.{item_there}
use Rattle.graph_firing.proofs.job.OpenJob.call.Goals as goal

pub call-requires : goal.call-requires
call-requires c =
    let i = c.self.inside in
    actor_call i.configuring i.workers i.stage c.self.invariant c.args.self.now c.self.view_is c.args.item (omega (arith, c.count-compilation.ensures)) c.requires

pub invariant_of-self : goal.invariant_of-self
invariant_of-self c =
    let i = c.self.inside in
    call_keeps i.configuring i.workers i.stage c.self.invariant c.args.self.now c.self.view_is c.args.item (omega (arith, c.count-compilation.ensures)) (ap mark.answer_of (actor_call i.configuring i.workers i.stage c.self.invariant c.args.self.now c.self.view_is c.args.item (omega (arith, c.count-compilation.ensures)) c.requires).free) c.call.new.self c.call.result c.call.ensures.opened c.call.ensures.refused

pub returns-then-item-compilation-clause-firing : goal.returns-then-item-compilation-clause-firing
returns-then-item-compilation-clause-firing c =
    let i = c.self.inside in
    call_tasks i.configuring i.workers i.stage c.self.invariant c.args.self.now c.self.view_is c.args.item (omega (arith, c.count-compilation.ensures)) c.call.result c.call.ensures.called

pub returns-then-item-compilation-clause-opened : goal.returns-then-item-compilation-clause-opened
returns-then-item-compilation-clause-opened c =
    let i = c.self.inside in
    call_view i.configuring i.workers i.stage c.self.invariant c.args.self.now c.self.view_is c.args.item (omega (arith, c.count-compilation.ensures)) c.call.new.self c.call.result c.call.ensures.opened

pub overflow_sub-item-else-item-compilation : goal.overflow_sub-item-else-item-compilation
overflow_sub-item-else-item-compilation c =
    let i = c.self.inside in
    above i.configuring i.workers i.stage c.self.invariant c.args.self.now c.self.view_is c.args.item c.count-compilation.result c.count-compilation.ensures c.if-item-compilation.false (call_other i.configuring i.workers i.stage c.self.invariant c.args.self.now c.self.view_is c.args.item c.requires)

pub call_node-requires : goal.call_node-requires
call_node-requires c =
    let i = c.self.inside in
    call_ok i.configuring i.workers i.stage c.self.invariant c.args.self.now c.self.view_is c.args.item c.count-compilation.result c.count-compilation.ensures c.if-item-compilation.false (call_other i.configuring i.workers i.stage c.self.invariant c.args.self.now c.self.view_is c.args.item c.requires) c.requires

pub returns-else-item-compilation-clause-firing : goal.returns-else-item-compilation-clause-firing
returns-else-item-compilation-clause-firing c =
    let i = c.self.inside in
    called_firing i.configuring i.workers i.stage c.self.invariant c.args.self.now c.self.view_is c.args.item c.count-compilation.result c.count-compilation.ensures c.if-item-compilation.false (call_other i.configuring i.workers i.stage c.self.invariant c.args.self.now c.self.view_is c.args.item c.requires) c.call_node.new.stage c.call_node.result c.call_node.ensures

pub returns-else-item-compilation-clause-opened : goal.returns-else-item-compilation-clause-opened
returns-else-item-compilation-clause-opened c =
    let i = c.self.inside in
    called_view i.configuring i.workers i.stage c.self.invariant c.args.self.now c.self.view_is c.args.item c.count-compilation.result c.count-compilation.ensures c.if-item-compilation.false (call_other i.configuring i.workers i.stage c.self.invariant c.args.self.now c.self.view_is c.args.item c.requires) c.call_node.new.stage c.call_node.result c.call_node.ensures

pub returns-else-item-compilation-clause-refused : goal.returns-else-item-compilation-clause-refused
returns-else-item-compilation-clause-refused c =
    let i = c.self.inside in
    uncalled_view i.configuring i.workers i.stage c.self.invariant c.args.self.now c.self.view_is c.args.item c.count-compilation.result c.count-compilation.ensures c.if-item-compilation.false (call_other i.configuring i.workers i.stage c.self.invariant c.args.self.now c.self.view_is c.args.item c.requires) c.call_node.new.stage c.call_node.result c.call_node.ensures

pub invariant_of-self-else-item-compilation : goal.invariant_of-self-else-item-compilation
invariant_of-self-else-item-compilation c =
    let i = c.self.inside in
    called_keeps i.configuring i.workers i.stage c.self.invariant c.args.self.now c.self.view_is c.args.item c.count-compilation.result c.count-compilation.ensures c.if-item-compilation.false (call_other i.configuring i.workers i.stage c.self.invariant c.args.self.now c.self.view_is c.args.item c.requires) c.call_node.new.stage c.call_node.result c.call_node.ensures

pub returns-then-item-compilation-clause-inherited : goal.returns-then-item-compilation-clause-inherited
returns-then-item-compilation-clause-inherited c =
    let i = c.self.inside in
    call_inherits i.configuring i.workers i.stage c.self.invariant c.args.self.now c.self.view_is c.args.item (omega (arith, c.count-compilation.ensures)) c.call.result c.call.ensures.inherited

pub returns-else-item-compilation-clause-inherited : goal.returns-else-item-compilation-clause-inherited
returns-else-item-compilation-clause-inherited c =
    let i = c.self.inside in
    called_inherited i.configuring i.workers i.stage c.self.invariant c.args.self.now c.self.view_is c.args.item c.count-compilation.result c.count-compilation.ensures c.if-item-compilation.false (call_other i.configuring i.workers i.stage c.self.invariant c.args.self.now c.self.view_is c.args.item c.requires) c.call_node.new.stage c.call_node.result c.call_node.ensures

pub returns-then-item-compilation-clause-there : goal.returns-then-item-compilation-clause-there
returns-then-item-compilation-clause-there c =
    let i = c.self.inside in
    item_there i.configuring i.workers i.stage c.self.invariant c.args.self.now c.self.view_is c.args.item _ c.requires.task_is

pub returns-else-item-compilation-clause-there : goal.returns-else-item-compilation-clause-there
returns-else-item-compilation-clause-there c =
    let i = c.self.inside in
    item_there i.configuring i.workers i.stage c.self.invariant c.args.self.now c.self.view_is c.args.item _ c.requires.task_is
