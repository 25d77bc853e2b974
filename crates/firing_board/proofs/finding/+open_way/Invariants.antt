use Rattle.std.proofs.Common.{ℕ, Option, Some, None}
use Rattle.job_rules.specs.Meant.{rank}
use Rattle.firing_board.specs.Table.View.{TableView, row_at}
use Rattle.firing_board.specs.declared.table.row.Row.{Row}
use Rattle.firing_board.proofs.finding.+open_way.Given as goal

-- how many graphs are nested in each other below that of a row
abbrev pub rank_of : TableView → Option Row → ℕ
rank_of v None = 0
rank_of v (Some row) = rank v.graphs.graphs row.job.firing

abbrev pub decreases-open_way : goal.decreases-open_way
decreases-open_way l = rank_of l.core.now.table (row_at l.core.now.table l.at.row)
