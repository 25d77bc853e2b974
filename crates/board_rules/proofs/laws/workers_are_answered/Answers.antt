use Rattle.board_rules.specs.Legal.{state_after}
use Rattle.board_rules.proofs.Answering.{alone, answered, has_pick, mapped, one_answer}
use Rattle.board_rules.proofs.Choosing.{pick_once}
use Rattle.board_rules.proofs.Known.{board_laws, known}
use Rattle.board_rules.proofs.laws.workers_are_answered.Goals as goal

pub returns-clause-mapped : goal.returns-clause-mapped
returns-clause-mapped c = λ key taken is legal. mapped key is (board_laws key (c.job_laws.ensures key is)) taken legal

pub returns-clause-picked : goal.returns-clause-picked
returns-clause-picked c = λ key taken w a is legal on. has_pick key is (board_laws key (c.job_laws.ensures key is)) taken legal w a on

pub returns-clause-once : goal.returns-clause-once
returns-clause-once c = λ key taken w i j p q is legal one other.
    let laws = board_laws key (c.job_laws.ensures key is) in
    pick_once key is laws (state_after key taken).marks (known key is laws taken legal) w i j p q one other

pub returns-clause-answered : goal.returns-clause-answered
returns-clause-answered c = λ key taken w is legal. answered key is (board_laws key (c.job_laws.ensures key is)) taken legal w

pub returns-clause-one_answer : goal.returns-clause-one_answer
returns-clause-one_answer c = one_answer

pub returns-clause-alone : goal.returns-clause-alone
returns-clause-alone c = alone
