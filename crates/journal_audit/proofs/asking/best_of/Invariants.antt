use Rattle.job_rules.specs.Words.{Answer}
use Rattle.nested_jobs.specs.Marks.{Marks}
use Rattle.pisdf_meaning.specs.declared.firing.Firing.{Firing}
use Rattle.board_rules.specs.Keys.{Key}
use Rattle.journal_audit.specs.Asking.{IsBestOf}
use Rattle.journal_audit.specs.Standing.{StandsSo}
use Rattle.journal_audit.proofs.asking.best_of.Given as goal

abbrev pub invariant-loop-key : goal.invariant-loop-key
invariant-loop-key l = (board : Key) (m : Marks Firing Answer) → StandsSo l.graphs l.rows board m → IsBestOf board m l.worker l.calls l.rows l.key l.best
