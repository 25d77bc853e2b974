use Rattle.std.proofs.Common.{ℕ, Option, Some, None}
use Rattle.job_rules.specs.Meant.{rank}
use Rattle.pisdf_model.specs.declared.graph.Graphs.{Graphs}
use Rattle.journal_audit.specs.Table.{row_at}
use Rattle.journal_audit.specs.declared.table.Row.{Row}
use Rattle.journal_audit.proofs.opening.+open_way.Given as goal

-- how many graphs are nested in each other below that of a row
abbrev pub rank_of : Graphs → Option Row → ℕ
rank_of graphs None = 0
rank_of graphs (Some row) = rank graphs.graphs row.job.firing

abbrev pub decreases-open_way : goal.decreases-open_way
decreases-open_way l = rank_of l.graphs.now (row_at l.rows.now.items l.at.row)
