use Rattle.board_rules.proofs.Answering.{few_jobs, shallow}
use Rattle.board_rules.proofs.Known.{board_laws}
use Rattle.board_rules.proofs.Rows.{rows_few}
use Rattle.board_rules.specs.Legal.{state_after}
use Rattle.board_rules.proofs.laws.few_jobs_are_open.Goals as goal

pub returns-clause-shallow : goal.returns-clause-shallow
returns-clause-shallow c = λ key taken p firing is legal o. shallow key is (board_laws key (c.job_laws.ensures key is)) taken legal p firing o

pub returns-clause-few : goal.returns-clause-few
returns-clause-few c = λ key taken ps is legal apart o. few_jobs key is (board_laws key (c.job_laws.ensures key is)) taken legal ps (c.journals_tell_one_thread.ensures.few key taken is legal) apart o

pub returns-clause-rows : goal.returns-clause-rows
returns-clause-rows c = λ key taken table held keys is kept are.
    rows_few key table (state_after key taken).marks kept.stands keys
    (λ ps apart o. few_jobs key is (board_laws key (c.job_laws.ensures key is)) taken kept.legal ps (c.journals_tell_one_thread.ensures.few key taken is kept.legal) apart o)
    are
