use Rattle.std.proofs.Common.{arith}
use Rattle.schedule_bound.specs.declared.slots.Slot.{Slot}
use Rattle.schedule_bound.specs.Slots.{no_slot}
use Rattle.schedule_bound.proofs.Greatest.{greatest_map_more}
use Rattle.schedule_bound.proofs.listed.length_of.Goals as goal

pub loop-slot-preserved : goal.loop-slot-preserved
loop-slot-preserved c =
    let more = greatest_map_more (λ (s : Slot). s.end) c.args.slots.now c.loop-slot.slot-index no_slot c.loop-slot-test.true in
    omega arith
