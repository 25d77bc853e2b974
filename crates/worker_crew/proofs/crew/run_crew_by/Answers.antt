use Rattle.std.proofs.Common.{sym, subst}
use Rattle.worker_crew.specs.Passes.{AreIdle}
use Rattle.worker_crew.proofs.Beginning.{ends_idle, ends_over, first_idle, lends_nothing}
use Rattle.worker_crew.proofs.crew.run_crew_by.Goals as goal

pub start-requires-clause-lent : goal.start-requires-clause-lent
start-requires-clause-lent g c = lends_nothing c.board_laws.ensures c.args.board c.journal-journal.ensures.sound c.requires.idle

pub crew_by-pass-requires-clause-idle : goal.crew_by-pass-requires-clause-idle
crew_by-pass-requires-clause-idle g c κs within = subst AreIdle (sym c.in_ok-lock.ensures.known) (first_idle c.board_laws.ensures c.args.board c.journal-journal.ensures.sound c.requires.idle c.args.workers c.requires.workers _ c.requires.kernels)

pub returns-clause-over : goal.returns-clause-over
returns-clause-over g c =
    ends_over c.board_laws.ensures c.args.board c.journal-journal.ensures.sound c.requires.idle c.args.workers c.requires.workers c.in_ok-lock.pass.known c.crew_by-pass.result.known c.in_ok-lock.ensures.known c.close-board.result
    c.journal-journal-2.ensures.sound c.crew_by-pass.ensures.worked c.close-board.ensures c.crew_by-pass.ensures.over

pub returns-clause-idle : goal.returns-clause-idle
returns-clause-idle g c =
    ends_idle c.board_laws.ensures c.args.board c.journal-journal.ensures.sound c.requires.idle c.args.workers c.requires.workers c.in_ok-lock.pass.known c.crew_by-pass.result.known c.in_ok-lock.ensures.known c.close-board.result
    c.journal-journal-2.ensures.sound c.crew_by-pass.ensures.worked c.close-board.ensures
