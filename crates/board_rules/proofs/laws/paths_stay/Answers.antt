use Rattle.board_rules.specs.Legal.{state_after}
use Rattle.board_rules.proofs.Known.{board_laws, known}
use Rattle.board_rules.proofs.Staying.{paths_stay}
use Rattle.board_rules.proofs.Steps.{paths_apart}
use Rattle.board_rules.proofs.laws.paths_stay.Goals as goal

pub returns-clause-stay : goal.returns-clause-stay
returns-clause-stay c = λ key taken e p k l is legal more o o'. paths_stay key is (board_laws key (c.job_laws.ensures key is)) taken e p k l legal more o o'

pub returns-clause-apart : goal.returns-clause-apart
returns-clause-apart c = λ key taken p q k l is legal o o' same.
    let laws = board_laws key (c.job_laws.ensures key is) in
    paths_apart key is laws (state_after key taken).marks (known key is laws taken legal) p q k l o o' same
