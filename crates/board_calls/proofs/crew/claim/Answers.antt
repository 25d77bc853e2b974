use Rattle.board_calls.proofs.Claiming.{claims, over}
use Rattle.board_calls.proofs.crew.claim.Goals as goal

pub returns-clause-steps : goal.returns-clause-steps
returns-clause-steps c = (claims c.board_laws.ensures c.work_fits.ensures c.args.board.now c.claim.new.self c.args.worker c.journal-before.ensures.sound c.requires c.claim.result c.claim.ensures.claims).0

pub returns-clause-holds : goal.returns-clause-holds
returns-clause-holds c = (claims c.board_laws.ensures c.work_fits.ensures c.args.board.now c.claim.new.self c.args.worker c.journal-before.ensures.sound c.requires c.claim.result c.claim.ensures.claims).1

pub returns-clause-over : goal.returns-clause-over
returns-clause-over c = over c.board_laws.ensures c.work_fits.ensures c.args.board.now c.claim.new.self c.args.worker c.journal-before.ensures.sound c.requires c.claim.result c.claim.ensures.claims
