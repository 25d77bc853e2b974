use Rattle.std.proofs.Common.{◌≡◌, Bool, Some, refl, sym, ap, ◌∙◌, subst, arith}
use Rattle.nested_jobs.specs.Marks as mark
use Rattle.nested_jobs.specs.Marks.{Busy}
use Rattle.kernel_gate.specs.declared.room.RoomSize.{RoomSize}
use Rattle.graph_firing.specs.Calls.{frame_of}
use Rattle.graph_firing.specs.Rooms.{TakesRoom}
use Rattle.graph_firing.specs.Stages.{HasNodes, HoldsFrames}
use Rattle.graph_firing.proofs.Methods.{actor_handed, actor_work, not_node, step_keeps, step_view}
use Rattle.graph_firing.proofs.NodeMethods.{claim_ok, claimed_handed, claimed_keeps, claimed_view, node_is, room_ok}
use Rattle.graph_firing.proofs.There.{item_there}
use Rattle.graph_firing.proofs.job.OpenJob.claim.Goals as goal

pub claim-requires : goal.claim-requires
claim-requires c =
    let i = c.self.inside in
    actor_work i.configuring i.workers i.stage c.self.invariant c.args.self.now c.self.view_is c.args.item (omega (arith, c.count-compilation.ensures)) c.requires.offered

pub invariant_of-self : goal.invariant_of-self
invariant_of-self c =
    let i = c.self.inside in
    step_keeps i.configuring i.workers i.stage c.self.invariant c.args.self.now c.self.view_is c.args.item (omega (arith, c.count-compilation.ensures)) c.claim.new.self (ap mark.answer_of (actor_work i.configuring i.workers i.stage c.self.invariant c.args.self.now c.self.view_is c.args.item (omega (arith, c.count-compilation.ensures)) c.requires.offered).free) Busy (λ s e. cc) (Some c.claim.result.places) c.claim.ensures.claimed

pub returns-then-item-compilation-clause-handed : goal.returns-then-item-compilation-clause-handed
returns-then-item-compilation-clause-handed c =
    let i = c.self.inside in
    actor_handed i.configuring i.workers i.stage c.self.invariant c.args.self.now c.self.view_is c.args.item (omega (arith, c.count-compilation.ensures)) c.claim.result c.claim.ensures.frame

pub returns-then-item-compilation-clause-claimed : goal.returns-then-item-compilation-clause-claimed
returns-then-item-compilation-clause-claimed c =
    let i = c.self.inside in
    step_view i.configuring i.workers i.stage c.self.invariant c.args.self.now c.self.view_is c.args.item (omega (arith, c.count-compilation.ensures)) c.claim.new.self Busy (Some c.claim.result.places) c.claim.ensures.claimed

pub claim_node-requires-clause-may : goal.claim_node-requires-clause-may
claim_node-requires-clause-may c =
    let i = c.self.inside in
    claim_ok i.configuring i.workers i.stage c.self.invariant c.args.self.now c.self.view_is c.args.item c.count-compilation.result c.count-compilation.ensures c.if-item-compilation.false c.requires.framed c.requires.offered

pub returns-else-item-compilation-clause-handed : goal.returns-else-item-compilation-clause-handed
returns-else-item-compilation-clause-handed c =
    let i = c.self.inside in
    claimed_handed i.configuring i.workers i.stage c.self.invariant c.args.self.now c.self.view_is c.args.item c.count-compilation.result c.count-compilation.ensures c.if-item-compilation.false c.requires.framed c.claim_node.new.stage c.claim_node.result c.claim_node.ensures.claimed

pub returns-else-item-compilation-clause-claimed : goal.returns-else-item-compilation-clause-claimed
returns-else-item-compilation-clause-claimed c =
    let i = c.self.inside in
    claimed_view i.configuring i.workers i.stage c.self.invariant c.args.self.now c.self.view_is c.args.item c.count-compilation.result c.count-compilation.ensures c.if-item-compilation.false c.requires.framed c.claim_node.new.stage c.claim_node.result c.claim_node.ensures.claimed

pub invariant_of-self-else-item-compilation : goal.invariant_of-self-else-item-compilation
invariant_of-self-else-item-compilation c =
    let i = c.self.inside in
    claimed_keeps i.configuring i.workers i.stage c.self.invariant c.args.self.now c.self.view_is c.args.item c.count-compilation.result c.count-compilation.ensures c.if-item-compilation.false c.requires.framed c.claim_node.new.stage c.claim_node.result c.claim_node.ensures.claimed

pub returns-then-item-compilation-clause-there : goal.returns-then-item-compilation-clause-there
returns-then-item-compilation-clause-there c =
    let i = c.self.inside in
    item_there i.configuring i.workers i.stage c.self.invariant c.args.self.now c.self.view_is c.args.item _ c.requires.offered.task_is

pub returns-else-item-compilation-clause-there : goal.returns-else-item-compilation-clause-there
returns-else-item-compilation-clause-there c =
    let i = c.self.inside in
    item_there i.configuring i.workers i.stage c.self.invariant c.args.self.now c.self.view_is c.args.item _ c.requires.offered.task_is

pub take_room-room-requires : goal.take_room-room-requires
take_room-room-requires c =
    let i = c.self.inside in
    let here = room_ok i.configuring i.workers i.stage c.self.invariant c.args.self.now c.self.view_is c.args.item c.count-compilation.result c.count-compilation.ensures c.if-item-compilation.false c.requires.framed c.requires.offered c.args.slot.now c.requires.room in
    (here.0, here.1)

pub claim_node-requires-clause-room : goal.claim_node-requires-clause-room
claim_node-requires-clause-room c =
    let i = c.self.inside in
    let here = room_ok i.configuring i.workers i.stage c.self.invariant c.args.self.now c.self.view_is c.args.item c.count-compilation.result c.count-compilation.ensures c.if-item-compilation.false c.requires.framed c.requires.offered c.args.slot.now c.requires.room in
    let same : here.0 ≡ c.take_room-room.result = (let e : Some here.0 ≡ Some c.take_room-room.result = sym here.1 ∙ c.take_room-room.ensures.taken in cc) in
    subst (λ (room : RoomSize). HasNodes (HoldsFrames room) i.stage) same here.2

pub returns-then-item-compilation-clause-room : goal.returns-then-item-compilation-clause-room
returns-then-item-compilation-clause-room c =
    let i = c.self.inside in
    subst (λ (node : Bool). TakesRoom node c.args.slot.now c.claim.result.places c.args.slot.now) (sym (not_node i.configuring i.workers i.stage c.self.invariant c.args.self.now c.self.view_is c.args.item (omega (arith, c.count-compilation.ensures)))) refl

pub returns-else-item-compilation-clause-room : goal.returns-else-item-compilation-clause-room
returns-else-item-compilation-clause-room c =
    let i = c.self.inside in
    subst (λ (node : Bool). TakesRoom node c.args.slot.now (frame_of c.claim_node.result).places c.take_room-room.new.slot) (sym (node_is i.configuring i.workers i.stage c.self.invariant c.args.self.now c.self.view_is c.args.item c.count-compilation.result c.count-compilation.ensures c.if-item-compilation.false c.requires.framed))
    (c.take_room-room.ensures.taken ∙ ap Some (sym c.claim_node.ensures.room), c.take_room-room.ensures.rest)
