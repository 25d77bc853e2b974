use Rattle.firing_board.specs.Table.AskedRows.{IsBestOf}
use Rattle.firing_board.proofs.table.pick.best_of.Given as goal

abbrev pub invariant-loop-key : goal.invariant-loop-key
invariant-loop-key l = IsBestOf l.worker l.calls l.rows l.key l.best
