use Rattle.std.proofs.Common.{◌≡◌, ◌<◌, ℕ, length, Some}
use Rattle.firing_board.specs.FrameRooms.{slot_at}
use Rattle.firing_board.proofs.frame_rooms.make_rooms.Given as goal

abbrev pub invariant-loop-worker : goal.invariant-loop-worker
invariant-loop-worker l = record { many : length l.slots.items ≡ length l.initial.slots.items; made : (w : ℕ) → w < l.worker → slot_at l.slots.items w ≡ Some l.size }
