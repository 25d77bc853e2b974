use Rattle.std.proofs.Common.{◌≡◌, ◌≤◌, replicate, None, vec_len, vec_capacity}
use Rattle.firing_board.proofs.frame_rooms.no_rooms.Given as goal

abbrev pub invariant-loop-worker : goal.invariant-loop-worker
invariant-loop-worker l = record { items : l.slots.items ≡ replicate l._worker None; len : vec_len l.slots ≡ l._worker; room : l.workers ≤ vec_capacity l.slots }
