use Rattle.firing_board.proofs.OfTable.Closings.{depth_of}
use Rattle.firing_board.specs.Table.View.{row_at}
use Rattle.firing_board.proofs.table.JobTable.+close_from.Given as goal

abbrev pub decreases-close_from : goal.decreases-close_from
decreases-close_from l = depth_of (row_at l.self.now l.row)
