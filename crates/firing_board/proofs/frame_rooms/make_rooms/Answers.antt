use Rattle.std.proofs.Common.{◌<◌, ◌∙◌, Some, length, length-set, ap, arith}
use Rattle.firing_board.proofs.FrameSteps.{one_more_made}
use Rattle.firing_board.proofs.frame_rooms.make_rooms.Goals as goal

pub loop-worker-preserved : goal.loop-worker-preserved
loop-worker-preserved c =
    let inside : c.loop-worker.worker < length c.loop-worker.slots.items = (let l = c.loop-worker-test.true in let m = c.loop-worker.invariant.many in omega arith) in
    record {
      many = length-set c.loop-worker.slots.items c.loop-worker.worker c.replace_room.new.slot ∙ c.loop-worker.invariant.many;
      made = one_more_made c.loop-worker.slots.items c.loop-worker.worker c.args.size c.replace_room.new.slot (c.replace_room.ensures ∙ ap Some c.in_ok-room.ensures) inside c.loop-worker.invariant.made;
    }
