use Rattle.std.proofs.Common.{◌+◌, None, ap, refl}
use Rattle.graph_firing.proofs.Methods.{no_work_compiling, no_work_refused, pick_nodes, pick_waiting}
use Rattle.graph_firing.proofs.job.OpenJob.first_work.Goals as goal

pub returns-in-Waiting : goal.returns-in-Waiting
returns-in-Waiting c =
    let i = c.self.inside in
    record {
      offer = c.first_waiting.result;
      is_pick = pick_waiting i.configuring i.workers i.stage c.self.invariant c.args.self.now c.self.view_is c.args.worker c.first_waiting.result c.in-Waiting.is c.first_waiting.ensures;
      number_is = c.number_of.ensures;
    }

pub returns-in-Compiling : goal.returns-in-Compiling
returns-in-Compiling c =
    let i = c.self.inside in
    record { offer = None; is_pick = no_work_compiling i.configuring i.workers i.stage c.self.invariant c.args.self.now c.self.view_is c.in-Compiling.is; number_is = refl }

pub returns-in-Refused : goal.returns-in-Refused
returns-in-Refused c =
    let i = c.self.inside in
    record { offer = None; is_pick = no_work_refused i.configuring i.workers i.stage c.self.invariant c.args.self.now c.self.view_is c.in-Refused.field-0 c.in-Refused.is; number_is = refl }

pub returns-in-Nodes : goal.returns-in-Nodes
returns-in-Nodes c =
    let i = c.self.inside in
    record {
      offer = c.first_node.result;
      is_pick = pick_nodes i.configuring i.workers i.stage c.self.invariant c.args.self.now c.self.view_is c.args.worker c.in-Nodes.running (c.count.result + 1) c.first_node.result c.in-Nodes.is (ap (λ n. n + 1) c.count.ensures) c.first_node.ensures;
      number_is = c.number_of-in-Nodes.ensures;
    }
