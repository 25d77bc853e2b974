use Rattle.std.proofs.Common.{sym, ap, ◌∙◌, arith}
use Rattle.nested_jobs.specs.Marks as mark
use Rattle.nested_jobs.specs.Marks.{Done}
use Rattle.job_preparing.specs.Handing.{end_of}
use Rattle.job_rules.specs.Words.{answer_of}
use Rattle.graph_firing.proofs.Methods.{actor_mark, step_keeps_mark, step_view_mark}
use Rattle.graph_firing.proofs.ActorCalls.{end_no_schedule}
use Rattle.graph_firing.proofs.NodeMethods.{answer_ok, answered_keeps, answered_view, open_other}
use Rattle.graph_firing.proofs.job.OpenJob.finish_call.Goals as goal

pub invariant_of-self : goal.invariant_of-self
invariant_of-self c =
    let i = c.self.inside in
    step_keeps_mark i.configuring i.workers i.stage c.self.invariant c.args.self.now c.self.view_is c.args.item (omega (arith, c.count-compilation.ensures)) c.finish_call.new.self (ap mark.answer_of (sym (actor_mark i.configuring i.workers i.stage c.self.invariant c.args.self.now c.self.view_is c.args.item (omega (arith, c.count-compilation.ensures))) ∙ c.requires.1)) (Done (answer_of (end_of c.args.end))) (end_no_schedule c.args.end) c.finish_call.ensures

pub returns-then-item-compilation : goal.returns-then-item-compilation
returns-then-item-compilation c =
    let i = c.self.inside in
    step_view_mark i.configuring i.workers i.stage c.self.invariant c.args.self.now c.self.view_is c.args.item (omega (arith, c.count-compilation.ensures)) c.finish_call.new.self (Done (answer_of (end_of c.args.end))) c.finish_call.ensures

pub finish_node_call-requires : goal.finish_node_call-requires
finish_node_call-requires c =
    let i = c.self.inside in
    answer_ok i.configuring i.workers i.stage c.self.invariant c.args.self.now c.self.view_is c.args.item c.count-compilation.result c.count-compilation.ensures c.if-item-compilation.false (open_other i.configuring i.workers i.stage c.self.invariant c.args.self.now c.self.view_is c.args.item c.requires.0 c.requires.1) c.args.end c.requires.0 c.requires.1 c.requires.2

pub returns-else-item-compilation : goal.returns-else-item-compilation
returns-else-item-compilation c =
    let i = c.self.inside in
    answered_view i.configuring i.workers i.stage c.self.invariant c.args.self.now c.self.view_is c.args.item c.count-compilation.result c.count-compilation.ensures c.if-item-compilation.false (open_other i.configuring i.workers i.stage c.self.invariant c.args.self.now c.self.view_is c.args.item c.requires.0 c.requires.1) c.finish_node_call.new.stage c.args.end c.finish_node_call.ensures

pub invariant_of-self-else-item-compilation : goal.invariant_of-self-else-item-compilation
invariant_of-self-else-item-compilation c =
    let i = c.self.inside in
    answered_keeps i.configuring i.workers i.stage c.self.invariant c.args.self.now c.self.view_is c.args.item c.count-compilation.result c.count-compilation.ensures c.if-item-compilation.false (open_other i.configuring i.workers i.stage c.self.invariant c.args.self.now c.self.view_is c.args.item c.requires.0 c.requires.1) c.finish_node_call.new.stage c.args.end c.finish_node_call.ensures
