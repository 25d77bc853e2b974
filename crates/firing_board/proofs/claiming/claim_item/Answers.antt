use Rattle.std.proofs.Common.{◌≡◌, Option, refl, sym, subst, arith}
use Rattle.kernel_gate.specs.declared.room.RoomSize.{RoomSize}
use Rattle.graph_firing.specs.Calls.{frame_of}
use Rattle.graph_firing.specs.Rooms.{HasRoomFor, TakesRoom, is_node}
use Rattle.firing_board.specs.FrameRooms.{slot_at}
use Rattle.firing_board.proofs.FrameSteps.{read_slot}
use Rattle.firing_board.proofs.claiming.claim_item.Goals as goal

pub index_mut-requires : goal.index_mut-requires
index_mut-requires c =
    let l = c.requires.slot in
    let o = c.args.rooms.now.slots.ok.0 in
    omega (arith, l, o)

pub claim-requires-clause-room : goal.claim-requires-clause-room
claim-requires-clause-room c =
    let slots = c.args.rooms.now.slots.items in
    let at : c.index_mut.result.now ≡ slot_at slots c.args.worker = read_slot slots c.args.worker c.index_mut.result.now c.requires.slot c.index_mut.ensures.value in
    let r = c.requires.room in
    (r.0, r.1, subst (λ (s : Option RoomSize). HasRoomFor r.0.job.room s) (sym at) r.2)

pub returns-clause-room : goal.returns-clause-room
returns-clause-room c =
    let slots = c.args.rooms.now.slots.items in
    let at : c.index_mut.result.now ≡ slot_at slots c.args.worker = read_slot slots c.args.worker c.index_mut.result.now c.requires.slot c.index_mut.ensures.value in
    let r = c.claim.ensures.room in (
      r.0,
      r.1,
      record {
        size_is = refl;
        slot = c.claim.new.slot;
        slots_are = refl;
        takes = subst (λ (s : Option RoomSize). TakesRoom (is_node r.0.job c.args.run.item) s (frame_of c.claim.result).places c.claim.new.slot) at r.2;
      },
    )
