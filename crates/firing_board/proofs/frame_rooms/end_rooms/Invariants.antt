use Rattle.firing_board.proofs.frame_rooms.end_rooms.Given as goal

abbrev pub decreases-loop-slot : goal.decreases-loop-slot
decreases-loop-slot l = goal.left-loop-slot l
