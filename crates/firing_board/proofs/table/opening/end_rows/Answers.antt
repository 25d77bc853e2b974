use Rattle.std.proofs.Common.{All, subst}
use Rattle.firing_board.specs.Table.Slots.{IsUnlent}
use Rattle.firing_board.proofs.OfTable.Methods.{all_before, all_last}
use Rattle.firing_board.proofs.table.opening.end_rows.Goals as goal

pub end-requires : goal.end-requires
end-requires c = subst IsUnlent c.in-Some-slot.is (all_last c.pop.new.self.items c.in-Some.slot (subst (All IsUnlent) c.in-Some.ensures.items c.loop-slot.invariant))

pub loop-slot-preserved-in-Some-slot : goal.loop-slot-preserved-in-Some-slot
loop-slot-preserved-in-Some-slot c = all_before c.pop.new.self.items c.in-Some.slot (subst (All IsUnlent) c.in-Some.ensures.items c.loop-slot.invariant)
