use Rattle.board_rules.proofs.Known.{board_laws}
use Rattle.board_rules.proofs.Rows.{end_is_meant, ends_at_top}
use Rattle.board_rules.proofs.laws.boards_end.Goals as goal

pub returns-clause-ended : goal.returns-clause-ended
returns-clause-ended c = λ key taken is legal. ends_at_top key is (board_laws key (c.job_laws.ensures key is)) taken legal

pub returns-clause-meant : goal.returns-clause-meant
returns-clause-meant c = λ key taken end is legal done. end_is_meant key is (board_laws key (c.job_laws.ensures key is)) taken legal end (λ ended. c.journals_tell_one_thread.ensures.tell key taken is legal ended) done
