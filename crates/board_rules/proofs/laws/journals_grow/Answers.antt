use Rattle.board_rules.proofs.Growing.{claim_entered, ended_stays, finish_entered}
use Rattle.board_rules.proofs.laws.journals_grow.Goals as goal

pub returns-clause-claim : goal.returns-clause-claim
returns-clause-claim c = λ key taken table w k i row later n is opened here. claim_entered key taken table w k i row later n opened here

pub returns-clause-finish : goal.returns-clause-finish
returns-clause-finish c = λ key taken w answer. finish_entered key taken w answer

pub returns-clause-ended : goal.returns-clause-ended
returns-clause-ended c = λ key taken e ended legal. ended_stays key taken e ended legal
