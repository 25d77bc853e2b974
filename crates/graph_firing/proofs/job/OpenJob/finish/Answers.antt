use Rattle.std.proofs.Common.{Bool, None, sym, ap, ◌∙◌, arith}
use Rattle.nested_jobs.specs.Marks as mark
use Rattle.nested_jobs.specs.Marks.{Done}
use Rattle.job_preparing.specs.Handing.{answer_with}
use Rattle.job_preparing.specs.View as preparing
use Rattle.graph_firing.specs.Rooms.{room_after, slot_after}
use Rattle.graph_firing.proofs.Methods.{actor_mark, not_node, step_keeps}
use Rattle.graph_firing.proofs.ActorCalls.{finish_view, never_schedules}
use Rattle.graph_firing.proofs.NodeMethods.{finish_ok, finished_keeps, finished_view, lent_other, node_is}
use Rattle.graph_firing.proofs.job.OpenJob.finish.Goals as goal

pub invariant_of-self : goal.invariant_of-self
invariant_of-self c =
    let i = c.self.inside in
    step_keeps i.configuring i.workers i.stage c.self.invariant c.args.self.now c.self.view_is c.args.item (omega (arith, c.count-compilation.ensures)) c.finish.new.self (ap mark.answer_of (sym (actor_mark i.configuring i.workers i.stage c.self.invariant c.args.self.now c.self.view_is c.args.item (omega (arith, c.count-compilation.ensures))) ∙ c.requires.busy)) (Done (answer_with (preparing.task i.configuring c.args.item) c.args.frame c.args.answer)) (never_schedules (preparing.task i.configuring c.args.item) c.args.frame c.args.answer) None c.finish.ensures

pub returns-then-item-compilation-clause-finished : goal.returns-then-item-compilation-clause-finished
returns-then-item-compilation-clause-finished c =
    let i = c.self.inside in
    finish_view i.configuring i.workers i.stage c.self.invariant c.args.self.now c.self.view_is c.args.item (omega (arith, c.count-compilation.ensures)) c.finish.new.self c.args.frame c.args.answer c.finish.ensures

pub finish_node-room-requires : goal.finish_node-room-requires
finish_node-room-requires c =
    let i = c.self.inside in
    finish_ok i.configuring i.workers i.stage c.self.invariant c.args.self.now c.self.view_is c.args.item c.count-compilation.result c.count-compilation.ensures c.if-item-compilation.false (lent_other i.configuring i.workers i.stage c.self.invariant c.args.self.now c.self.view_is c.args.item c.args.frame.places c.requires.lent) c.args.frame _ c.requires.busy c.requires.lent c.requires.sound

pub returns-else-item-compilation-clause-finished : goal.returns-else-item-compilation-clause-finished
returns-else-item-compilation-clause-finished c =
    let i = c.self.inside in
    finished_view i.configuring i.workers i.stage c.self.invariant c.args.self.now c.self.view_is c.args.item c.count-compilation.result c.count-compilation.ensures c.if-item-compilation.false (lent_other i.configuring i.workers i.stage c.self.invariant c.args.self.now c.self.view_is c.args.item c.args.frame.places c.requires.lent) c.finish_node-room.new.stage c.args.frame c.args.answer c.finish_node-room.ensures.finished

pub invariant_of-self-else-item-compilation : goal.invariant_of-self-else-item-compilation
invariant_of-self-else-item-compilation c =
    let i = c.self.inside in
    finished_keeps i.configuring i.workers i.stage c.self.invariant c.args.self.now c.self.view_is c.args.item c.count-compilation.result c.count-compilation.ensures c.if-item-compilation.false (lent_other i.configuring i.workers i.stage c.self.invariant c.args.self.now c.self.view_is c.args.item c.args.frame.places c.requires.lent) c.finish_node-room.new.stage c.args.frame c.args.answer c.finish_node-room.ensures.finished

pub returns-then-item-compilation-clause-room : goal.returns-then-item-compilation-clause-room
returns-then-item-compilation-clause-room c =
    let i = c.self.inside in
    ap (λ (node : Bool). slot_after node c.args.slot.now c.args.frame.places) (sym (not_node i.configuring i.workers i.stage c.self.invariant c.args.self.now c.self.view_is c.args.item (omega (arith, c.count-compilation.ensures))))

pub returns-else-item-compilation-clause-room : goal.returns-else-item-compilation-clause-room
returns-else-item-compilation-clause-room c =
    let i = c.self.inside in
    c.put_room.ensures ∙ ap (room_after c.args.slot.now) c.finish_node-room.ensures.room
    ∙ ap (λ (node : Bool). slot_after node c.args.slot.now c.args.frame.places) (sym (node_is i.configuring i.workers i.stage c.self.invariant c.args.self.now c.self.view_is c.args.item c.count-compilation.result c.count-compilation.ensures c.if-item-compilation.false (lent_other i.configuring i.workers i.stage c.self.invariant c.args.self.now c.self.view_is c.args.item c.args.frame.places c.requires.lent)))
