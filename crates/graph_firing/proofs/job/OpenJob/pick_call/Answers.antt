use Rattle.std.proofs.Common.{◌+◌, ap}
use Rattle.graph_firing.proofs.Methods.{no_call_compiling, no_call_refused, call_nodes, call_waiting}
use Rattle.graph_firing.proofs.job.OpenJob.pick_call.Goals as goal

pub returns-in-Waiting : goal.returns-in-Waiting
returns-in-Waiting c = let i = c.self.inside in call_waiting i.configuring i.workers i.stage c.self.invariant c.args.self.now c.self.view_is c.args.worker c.first_call_waiting.result c.in-Waiting.is c.first_call_waiting.ensures

pub returns-in-Compiling : goal.returns-in-Compiling
returns-in-Compiling c = let i = c.self.inside in no_call_compiling i.configuring i.workers i.stage c.self.invariant c.args.self.now c.self.view_is c.in-Compiling.is

pub returns-in-Refused : goal.returns-in-Refused
returns-in-Refused c = let i = c.self.inside in no_call_refused i.configuring i.workers i.stage c.self.invariant c.args.self.now c.self.view_is c.in-Refused.field-0 c.in-Refused.is

pub returns-in-Nodes : goal.returns-in-Nodes
returns-in-Nodes c = let i = c.self.inside in call_nodes i.configuring i.workers i.stage c.self.invariant c.args.self.now c.self.view_is c.args.worker c.in-Nodes.running (c.count.result + 1) c.first_call.result c.in-Nodes.is (ap (λ n. n + 1) c.count.ensures) c.first_call.ensures
