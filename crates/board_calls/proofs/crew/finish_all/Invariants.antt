use Rattle.std.proofs.Common.{◌≡◌, ◌≤◌, length}
use Rattle.board_calls.specs.Holding.{AreHeld, HasOurKernels}
use Rattle.board_calls.proofs.crew.finish_all.Given as goal

-- the workers from this one on have finished what they held
abbrev pub invariant-loop-holding : goal.invariant-loop-holding
invariant-loop-holding l = record { kernels : HasOurKernels l.board; key : l.board.key ≡ l.fn.board.key; place : length l.held.items ≡ l.worker; inside : l.worker ≤ l.board.key.workers; all : AreHeld l.board l.held.items }

abbrev pub decreases-loop-holding : goal.decreases-loop-holding
decreases-loop-holding l = goal.left-loop-holding l
