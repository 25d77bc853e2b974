use Rattle.std.proofs.Common.{subst, ◌∙◌}
use Rattle.pisdf_model.specs.declared.graph.Graphs.{Graphs}
use Rattle.pisdf_program.specs.Result.{FromFiles, Journals}
use Rattle.pisdf_program.specs.Worked.{ReportsBoards}
use Rattle.pisdf_program.proofs.Boards.{boards_there, unread_boards, works_boards}
use Rattle.pisdf_program.proofs.Working.{files_stop, files_there, goes_on, rose_unread, starved_first, usage_stops, usage_unread}
use Rattle.pisdf_program.proofs.journal.tell_journals.Goals as goal

pub returns-in-Err-clause-works : goal.returns-in-Err-clause-works
returns-in-Err-clause-works g c =
    let files = g.S.Shelf.holds c.args.shelf.now in
    files_stop (Journals c.args.iterations c.args.workers) (files c.args.graph.now) (files c.args.tokens.now) (g.O.Sink.written c.args.out.now) (g.O.Sink.faults c.args.out.now) c.in-Err.status c.in-Err.ensures.stops c.in-Err.ensures.settles

pub returns-in-Err-clause-there : goal.returns-in-Err-clause-there
returns-in-Err-clause-there g c =
    let files = g.S.Shelf.holds c.args.shelf.now in
    files_there (Journals c.args.iterations c.args.workers) (files c.args.graph.now) (files c.args.tokens.now) c.in-Err.status c.in-Err.ensures.settles

pub returns-in-Err-clause-usage : goal.returns-in-Err-clause-usage
returns-in-Err-clause-usage g c = usage_stops c.in-Err.status c.in-Err.ensures.stops

pub returns-in_default-clause-works : goal.returns-in_default-clause-works
returns-in_default-clause-works g c =
    let files = g.S.Shelf.holds c.args.shelf.now in
    starved_first (FromFiles (Journals c.args.iterations c.args.workers) (files c.args.graph.now) (files c.args.tokens.now)) (g.O.Sink.written c.args.out.now) (g.O.Sink.faults c.args.out.now)

pub returns-clause-works : goal.returns-clause-works
returns-clause-works g c =
    let files = g.S.Shelf.holds c.args.shelf.now in
    let input = c.in-Ok.input in
    let reports = subst (λ (x : Graphs). ReportsBoards x c.run_journals-end.result c.report_boards.result) (c.deref.ensures ∙ c.in-Ok-new.ensures.ok) c.report_boards.ensures in
    works_boards (FromFiles (Journals c.args.iterations c.args.workers) (files c.args.graph.now) (files c.args.tokens.now)) c.args.workers c.args.iterations input
    (goes_on (Journals c.args.iterations c.args.workers) (files c.args.graph.now) (files c.args.tokens.now) input c.in-Ok.ensures.settles)
    (g.O.Sink.written c.args.out.now) (g.O.Sink.written c.run_journals-end.new.out) (g.O.Sink.faults c.args.out.now) (g.O.Sink.faults c.run_journals-end.new.out) c.run_journals-end.result c.report_boards.result
    (rw (c.in-Ok-new.ensures.ok, c.items-streams.ensures) at c.run_journals-end.ensures.ends) reports

pub returns-clause-there : goal.returns-clause-there
returns-clause-there g c =
    let files = g.S.Shelf.holds c.args.shelf.now in
    let reports = subst (λ (x : Graphs). ReportsBoards x c.run_journals-end.result c.report_boards.result) (c.deref.ensures ∙ c.in-Ok-new.ensures.ok) c.report_boards.ensures in
    boards_there (files c.args.graph.now) (files c.args.tokens.now) c.args.workers c.args.iterations c.in-Ok.input c.in-Ok.ensures.settles
    (g.O.Sink.written c.args.out.now) (g.O.Sink.written c.run_journals-end.new.out) (g.O.Sink.faults c.args.out.now) (g.O.Sink.faults c.run_journals-end.new.out) c.run_journals-end.result c.report_boards.result
    (rw (c.in-Ok-new.ensures.ok, c.items-streams.ensures) at c.run_journals-end.ensures.ends) reports

pub returns-clause-read : goal.returns-clause-read
returns-clause-read g c =
    rose_unread c.args.graph.now c.args.tokens.now (g.S.Shelf.faults c.args.shelf.now) (g.S.Shelf.faults c.load_input.new.shelf) c.report_boards.result
    (unread_boards c.deref.result.now c.run_journals-end.result c.report_boards.result c.report_boards.ensures)

pub returns-clause-usage : goal.returns-clause-usage
returns-clause-usage g c = usage_unread c.report_boards.result (unread_boards c.deref.result.now c.run_journals-end.result c.report_boards.result c.report_boards.ensures)
