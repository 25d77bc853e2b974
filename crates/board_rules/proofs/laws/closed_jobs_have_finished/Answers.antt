use Rattle.board_rules.proofs.Closed.{closed_finished}
use Rattle.board_rules.proofs.Known.{board_laws}
use Rattle.board_rules.proofs.laws.closed_jobs_have_finished.Goals as goal

pub returns : goal.returns
returns c = λ key taken e p job given is legal more o done. closed_finished key is (board_laws key (c.job_laws.ensures key is)) c.jobs_end_as_runs.ensures.finished taken e p job given legal more o done
