use Rattle.std.proofs.Common.{sym, subst}
use Rattle.board_calls.specs.Holding.{Holds, IsCrewOf}
use Rattle.board_calls.proofs.Playing.{crew_then}
use Rattle.board_calls.proofs.crew.ask.Goals as goal

pub returns-clause-crew : goal.returns-clause-crew
returns-clause-crew c =
    let y = c.claim-claim.new.board in
    let holds : Holds y c.args.worker c.held_by-next.result = subst (Holds y c.args.worker) (sym c.held_by-next.ensures) c.claim-claim.ensures.holds in
    subst (IsCrewOf y) (sym c.put.ensures)
    (crew_then c.board_laws.ensures c.args.worker c.args.board.now y c.journal-before.ensures.sound c.journal-after.ensures.sound c.claim-claim.ensures.steps c.args.held.now.items c.requires.crew c.requires.known c.held_by-next.result holds)
