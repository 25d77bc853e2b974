use Rattle.graph_firing.proofs.NodeMethods.{above, call_ok, call_other, known_ok}
use Rattle.graph_firing.proofs.job.OpenJob.known.Goals as goal

pub overflow_sub-item-else-item-compilation : goal.overflow_sub-item-else-item-compilation
overflow_sub-item-else-item-compilation c =
    let i = c.self.inside in
    above i.configuring i.workers i.stage c.self.invariant c.args.self.now c.self.view_is c.args.item c.count-compilation.result c.count-compilation.ensures c.if-item-compilation.false (call_other i.configuring i.workers i.stage c.self.invariant c.args.self.now c.self.view_is c.args.item c.requires)

pub known_node-requires : goal.known_node-requires
known_node-requires c =
    let i = c.self.inside in
    call_ok i.configuring i.workers i.stage c.self.invariant c.args.self.now c.self.view_is c.args.item c.count-compilation.result c.count-compilation.ensures c.if-item-compilation.false (call_other i.configuring i.workers i.stage c.self.invariant c.args.self.now c.self.view_is c.args.item c.requires) c.requires

pub returns-else-item-compilation : goal.returns-else-item-compilation
returns-else-item-compilation c =
    let i = c.self.inside in
    known_ok i.configuring i.workers i.stage c.self.invariant c.args.self.now c.self.view_is c.args.item c.count-compilation.result c.count-compilation.ensures c.if-item-compilation.false (call_other i.configuring i.workers i.stage c.self.invariant c.args.self.now c.self.view_is c.args.item c.requires) c.known_node.result c.known_node.ensures
