use Rattle.journal_audit.specs.Table.{row_at}
use Rattle.journal_audit.proofs.Closings.{depth_of}
use Rattle.journal_audit.proofs.closing.+close.Given as goal

abbrev pub decreases-close : goal.decreases-close
decreases-close l = depth_of (row_at l.rows.now.items l.key)
