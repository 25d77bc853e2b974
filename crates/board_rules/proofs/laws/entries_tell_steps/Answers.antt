use Rattle.board_rules.proofs.Entering.{answers_once, journal_once}
use Rattle.board_rules.proofs.Known.{board_laws}
use Rattle.board_rules.proofs.laws.entries_tell_steps.Goals as goal

pub returns-clause-answers : goal.returns-clause-answers
returns-clause-answers c = λ graphs work a b one other. answers_once graphs.graphs work a b one other

pub returns-clause-steps : goal.returns-clause-steps
returns-clause-steps c = λ key taken others is one other same. journal_once key is (board_laws key (c.job_laws.ensures key is)) taken others one other same
