use Rattle.std.proofs.Common.{map, string_bytes}
use Rattle.pisdf_program.specs.Words.{command_of}
use Rattle.pisdf_program.specs.Result.{Knows, ResultOf}
use Rattle.pisdf_program.proofs.NoSoak.{soak_told}
use Rattle.pisdf_program.proofs.Working.{completes, ended, rose_told, there, usage_told}
use Rattle.pisdf_program.proofs.program.run_program.Goals as goal

pub returns-clause-ended : goal.returns-clause-ended
returns-clause-ended g c =
    ended (ResultOf (map string_bytes c.args.words.now) (g.S.Shelf.holds c.args.shelf.now)) (g.O.Sink.written c.args.out.now) (g.O.Sink.written c.work-worked.new.out)
    (g.E.Sink.written c.args.err.now) (g.E.Sink.written c.conclude.new.err) (g.O.Sink.faults c.args.out.now) (g.O.Sink.faults c.work-worked.new.out)
    (g.E.Sink.faults c.args.err.now) (g.E.Sink.faults c.conclude.new.err) c.conclude.result c.work-worked.result c.work-worked.ensures.works c.conclude.ensures.concludes

pub returns-clause-read : goal.returns-clause-read
returns-clause-read g c =
    rose_told (command_of (map string_bytes c.args.words.now)) (g.S.Shelf.faults c.args.shelf.now) (g.S.Shelf.faults c.work-worked.new.shelf) c.work-worked.result
    (g.E.Sink.written c.args.err.now) (g.E.Sink.written c.conclude.new.err) (g.E.Sink.faults c.args.err.now) (g.E.Sink.faults c.conclude.new.err) c.conclude.result
    c.work-worked.ensures.read c.conclude.ensures.concludes

pub returns-clause-complete : goal.returns-clause-complete
returns-clause-complete g c =
    completes (ResultOf (map string_bytes c.args.words.now) (g.S.Shelf.holds c.args.shelf.now)) (command_of (map string_bytes c.args.words.now))
    (g.S.Shelf.faults c.args.shelf.now) (g.S.Shelf.faults c.work-worked.new.shelf) (g.O.Sink.written c.args.out.now) (g.O.Sink.written c.work-worked.new.out)
    (g.E.Sink.written c.args.err.now) (g.E.Sink.written c.conclude.new.err) (g.O.Sink.faults c.args.out.now) (g.O.Sink.faults c.work-worked.new.out)
    (g.E.Sink.faults c.args.err.now) (g.E.Sink.faults c.conclude.new.err) c.conclude.result (returns-clause-ended g c) (returns-clause-read g c)

pub returns-clause-only_usage : goal.returns-clause-only_usage
returns-clause-only_usage g c =
    λ u. c.work-worked.ensures.only (usage_told c.work-worked.result (g.E.Sink.written c.args.err.now) (g.E.Sink.written c.conclude.new.err)
    (g.E.Sink.faults c.args.err.now) (g.E.Sink.faults c.conclude.new.err) c.conclude.result c.conclude.ensures.concludes u)

pub returns-clause-there : goal.returns-clause-there
returns-clause-there g c =
    there (Knows (command_of (map string_bytes c.args.words.now)) (g.S.Shelf.holds c.args.shelf.now)) (ResultOf (map string_bytes c.args.words.now) (g.S.Shelf.holds c.args.shelf.now)) c.work-worked.result
    (g.E.Sink.written c.args.err.now) (g.E.Sink.written c.conclude.new.err) (g.E.Sink.faults c.args.err.now) (g.E.Sink.faults c.conclude.new.err) c.conclude.result
    c.work-worked.ensures.there c.conclude.ensures.concludes

pub returns-clause-soak : goal.returns-clause-soak
returns-clause-soak g c = λ number workers is.
    let soak = c.work-worked.ensures.soak number workers is in (
      soak_told c.work-worked.result (g.E.Sink.written c.args.err.now) (g.E.Sink.written c.conclude.new.err) (g.E.Sink.faults c.args.err.now) (g.E.Sink.faults c.conclude.new.err) c.conclude.result
          c.conclude.ensures.concludes soak.0,
      soak.1,
    )
