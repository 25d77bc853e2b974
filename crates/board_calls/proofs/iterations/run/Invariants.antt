use Rattle.std.specs.Arc.{arc_value}
use Rattle.firing_board.specs.Keeping.{AreKeptLevelsOf}
use Rattle.quiescent_driver.specs.Given.{IsTopState}
use Rattle.board_calls.proofs.iterations.run.Given as goal

-- the state suits the next iteration, and the levels its graphs
abbrev pub invariant-loop-number : goal.invariant-loop-number
invariant-loop-number g l = record { state : IsTopState (arc_value l.graphs) l.delays.lists; levels : AreKeptLevelsOf (arc_value l.graphs) l.carried.levels }
