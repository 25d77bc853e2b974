use Rattle.std.proofs.Common.{subst, ◌∙◌}
use Rattle.pisdf_model.specs.declared.graph.Graphs.{Graphs}
use Rattle.pisdf_program.specs.Result.{Runs, RunsFile}
use Rattle.pisdf_program.specs.Worked.{Reports}
use Rattle.pisdf_program.proofs.Working.{ended_there, files_stop, files_there, rose_unread, run_decides, starved_first, unread_report, usage_stops, usage_unread, works_run}
use Rattle.pisdf_program.proofs.program.run_files.Goals as goal

pub returns-in-Err-clause-works : goal.returns-in-Err-clause-works
returns-in-Err-clause-works g c =
    let files = g.S.Shelf.holds c.args.shelf.now in
    files_stop (Runs c.args.iterations) (files c.args.graph.now) (files c.args.tokens.now) (g.O.Sink.written c.args.out.now) (g.O.Sink.faults c.args.out.now) c.in-Err.status c.in-Err.ensures.stops c.in-Err.ensures.settles

pub returns-in-Err-clause-there : goal.returns-in-Err-clause-there
returns-in-Err-clause-there g c =
    let files = g.S.Shelf.holds c.args.shelf.now in
    files_there (Runs c.args.iterations) (files c.args.graph.now) (files c.args.tokens.now) c.in-Err.status c.in-Err.ensures.settles

pub returns-in-Err-clause-usage : goal.returns-in-Err-clause-usage
returns-in-Err-clause-usage g c = usage_stops c.in-Err.status c.in-Err.ensures.stops

pub returns-in_default-clause-works : goal.returns-in_default-clause-works
returns-in_default-clause-works g c =
    let files = g.S.Shelf.holds c.args.shelf.now in
    starved_first (RunsFile (files c.args.graph.now) c.args.iterations (files c.args.tokens.now)) (g.O.Sink.written c.args.out.now) (g.O.Sink.faults c.args.out.now)

pub returns-clause-works : goal.returns-clause-works
returns-clause-works g c =
    let files = g.S.Shelf.holds c.args.shelf.now in
    let input = c.in-Ok.input in
    let reports = subst (λ (x : Graphs). Reports x c.end_of-end.result c.report.result) (c.deref.ensures ∙ c.in-Ok-new.ensures.ok) c.report.ensures in
    works_run (RunsFile (files c.args.graph.now) c.args.iterations (files c.args.tokens.now)) input.graphs input.streams c.args.iterations
    (g.O.Sink.written c.args.out.now) (g.O.Sink.written c.end_of-end.new.out) (g.O.Sink.faults c.args.out.now) (g.O.Sink.faults c.end_of-end.new.out) c.end_of-end.result c.report.result
    (run_decides (files c.args.graph.now) (files c.args.tokens.now) c.args.iterations input c.in-Ok.ensures.settles)
    (rw (c.in-Ok-new.ensures.ok, c.items.ensures) at c.end_of-end.ensures) reports

pub returns-clause-there : goal.returns-clause-there
returns-clause-there g c =
    let files = g.S.Shelf.holds c.args.shelf.now in
    let reports = subst (λ (x : Graphs). Reports x c.end_of-end.result c.report.result) (c.deref.ensures ∙ c.in-Ok-new.ensures.ok) c.report.ensures in
    ended_there (files c.args.graph.now) (files c.args.tokens.now) c.args.iterations c.in-Ok.input c.in-Ok.ensures.settles
    (g.O.Sink.written c.args.out.now) (g.O.Sink.written c.end_of-end.new.out) (g.O.Sink.faults c.args.out.now) (g.O.Sink.faults c.end_of-end.new.out) c.end_of-end.result c.report.result
    (rw (c.in-Ok-new.ensures.ok, c.items.ensures) at c.end_of-end.ensures) reports

pub returns-clause-read : goal.returns-clause-read
returns-clause-read g c =
    rose_unread c.args.graph.now c.args.tokens.now (g.S.Shelf.faults c.args.shelf.now) (g.S.Shelf.faults c.load_input.new.shelf) c.report.result
    (unread_report c.deref.result.now c.end_of-end.result c.report.result c.report.ensures)

pub returns-clause-usage : goal.returns-clause-usage
returns-clause-usage g c = usage_unread c.report.result (unread_report c.deref.result.now c.end_of-end.result c.report.result c.report.ensures)
