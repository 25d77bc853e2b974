use Rattle.std.proofs.Common.{sym, subst}
use Rattle.board_calls.specs.Holding.{Holds, IsCrewOf}
use Rattle.board_calls.specs.declared.held.Held.TheVariants.{Nothing}
use Rattle.board_calls.proofs.Playing.{crew_then}
use Rattle.board_calls.proofs.crew.finish_held.Goals as goal

pub finish-finished-requires-clause-holds : goal.finish-finished-requires-clause-holds
finish-finished-requires-clause-holds c = subst (Holds c.args.board.now c.args.worker) (sym c.take-holding.ensures.given) (c.requires.crew.all c.args.worker c.requires.known)

pub returns-clause-crew : goal.returns-clause-crew
returns-clause-crew c =
    let back = c.finish-finished.ensures in
    subst (IsCrewOf c.finish-finished.new.board) (sym c.take-holding.ensures.rest)
    (crew_then c.board_laws.ensures c.args.worker c.args.board.now c.finish-finished.new.board c.journal-before.ensures.sound c.journal-after.ensures.sound back.0 c.args.held.now.items c.requires.crew c.requires.known Nothing back.1)
