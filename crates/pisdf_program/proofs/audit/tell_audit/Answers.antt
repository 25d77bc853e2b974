use Rattle.std.proofs.Common.{◌∙◌, Some}
use Rattle.std.specs.Arc.{arc_value}
use Rattle.kernel_gate.specs.Table.{the_signatures}
use Rattle.pisdf_program.specs.Words.{Audit}
use Rattle.pisdf_program.specs.Result.{Audits, FromFiles}
use Rattle.pisdf_program.specs.declared.status.Which.TheVariants.{Journal}
use Rattle.pisdf_program.proofs.Auditing.{journal_rose, journal_stops, journal_there, no_other_verdict, there_of_three, two_rose, verdict_given, verdict_there, verdict_works}
use Rattle.pisdf_program.proofs.Working.{count_unread, files_stop, files_there, starved_first, stops_reading, usage_stops, usage_unread}
use Rattle.pisdf_program.proofs.audit.tell_audit.Goals as goal

pub returns-in-Err-clause-works : goal.returns-in-Err-clause-works
returns-in-Err-clause-works g c =
    let files = g.S.Shelf.holds c.args.shelf.now in
    files_stop (Audits c.args.iterations c.args.workers (files c.args.journal.now)) (files c.args.graph.now) (files c.args.tokens.now)
    (g.O.Sink.written c.args.out.now) (g.O.Sink.faults c.args.out.now) c.in-Err.status c.in-Err.ensures.stops c.in-Err.ensures.settles

pub returns-in-Err-clause-there : goal.returns-in-Err-clause-there
returns-in-Err-clause-there g c =
    let files = g.S.Shelf.holds c.args.shelf.now in
    let audits = Audits c.args.iterations c.args.workers (files c.args.journal.now) in
    there_of_three (files c.args.graph.now) (files c.args.tokens.now) (files c.args.journal.now) (FromFiles audits (files c.args.graph.now) (files c.args.tokens.now)) c.in-Err.status
    (files_there audits (files c.args.graph.now) (files c.args.tokens.now) c.in-Err.status c.in-Err.ensures.settles)

pub returns-in-Err-clause-read : goal.returns-in-Err-clause-read
returns-in-Err-clause-read g c =
    two_rose c.args.graph.now c.args.tokens.now c.args.journal.now c.args.iterations c.args.workers (g.S.Shelf.faults c.args.shelf.now) (g.S.Shelf.faults c.load_input.new.shelf)
    c.in-Err.status c.in-Err.ensures.rose

pub returns-in-Err-clause-usage : goal.returns-in-Err-clause-usage
returns-in-Err-clause-usage g c = usage_stops c.in-Err.status c.in-Err.ensures.stops

pub returns-in-Err-load_journal-clause-works : goal.returns-in-Err-load_journal-clause-works
returns-in-Err-load_journal-clause-works g c =
    let files = g.S.Shelf.holds c.args.shelf.now in
    let status = c.in-Err-load_journal.status in
    journal_stops c.args.iterations c.args.workers (files c.args.graph.now) (files c.args.tokens.now) (files c.args.journal.now) c.in-Ok.input c.in-Ok.ensures.settles
    (g.O.Sink.written c.args.out.now) (g.O.Sink.faults c.args.out.now) status
    (stops_reading Journal (g.S.Shelf.faults c.load_input.new.shelf c.args.journal.now) (g.S.Shelf.faults c.load_journal.new.shelf c.args.journal.now) status c.in-Err-load_journal.ensures.faults)
    (λ told is a. c.in-Err-load_journal.ensures.settles told (c.in-Ok.ensures.contents c.args.journal.now ∙ is) a)

pub returns-in-Err-load_journal-clause-there : goal.returns-in-Err-load_journal-clause-there
returns-in-Err-load_journal-clause-there g c =
    let files = g.S.Shelf.holds c.args.shelf.now in
    journal_there c.args.iterations c.args.workers (files c.args.graph.now) (files c.args.tokens.now) (files c.args.journal.now) c.in-Ok.input c.in-Ok.ensures.settles c.in-Err-load_journal.status
    (λ told is a. c.in-Err-load_journal.ensures.settles told (c.in-Ok.ensures.contents c.args.journal.now ∙ is) a)

pub returns-in-Err-load_journal-clause-read : goal.returns-in-Err-load_journal-clause-read
returns-in-Err-load_journal-clause-read g c =
    journal_rose c.args.graph.now c.args.tokens.now c.args.journal.now c.args.iterations c.args.workers
    (g.S.Shelf.faults c.args.shelf.now) (g.S.Shelf.faults c.load_input.new.shelf) (g.S.Shelf.faults c.load_journal.new.shelf)
    c.in-Err-load_journal.status (c.in-Ok.ensures.never_falls c.args.journal.now) c.in-Err-load_journal.ensures.faults

pub returns-in-Err-load_journal-clause-usage : goal.returns-in-Err-load_journal-clause-usage
returns-in-Err-load_journal-clause-usage g c =
    usage_stops c.in-Err-load_journal.status
    (stops_reading Journal (g.S.Shelf.faults c.load_input.new.shelf c.args.journal.now) (g.S.Shelf.faults c.load_journal.new.shelf c.args.journal.now) c.in-Err-load_journal.status c.in-Err-load_journal.ensures.faults)

pub returns-in_default-clause-works : goal.returns-in_default-clause-works
returns-in_default-clause-works g c =
    let files = g.S.Shelf.holds c.args.shelf.now in
    starved_first (FromFiles (Audits c.args.iterations c.args.workers (files c.args.journal.now)) (files c.args.graph.now) (files c.args.tokens.now)) (g.O.Sink.written c.args.out.now) (g.O.Sink.faults c.args.out.now)

pub returns-in_default-audit-clause-works : goal.returns-in_default-audit-clause-works
returns-in_default-audit-clause-works g c =
    let files = g.S.Shelf.holds c.args.shelf.now in
    starved_first (FromFiles (Audits c.args.iterations c.args.workers (files c.args.journal.now)) (files c.args.graph.now) (files c.args.tokens.now)) (g.O.Sink.written c.args.out.now) (g.O.Sink.faults c.args.out.now)

pub returns-clause-works : goal.returns-clause-works
returns-clause-works g c =
    let files = g.S.Shelf.holds c.args.shelf.now in
    let input = c.in-Ok.input in
    let v = c.in-Ok-audit.verdict in
    let text = c.in-Ok-load_journal.text in
    verdict_works c.args.iterations c.args.workers (files c.args.graph.now) (files c.args.tokens.now) (files c.args.journal.now) input c.in-Ok.ensures.settles text v
    (λ told is. c.in-Ok-load_journal.ensures.settles told (c.in-Ok.ensures.contents c.args.journal.now ∙ is))
    (g.O.Sink.written c.args.out.now) (g.O.Sink.written c.tell_verdict.new.out) (g.O.Sink.faults c.args.out.now) (g.O.Sink.faults c.tell_verdict.new.out) c.tell_verdict.result
    (no_other_verdict (arc_value c.in-Ok-new.graphs) input.graphs (g.K.Gate.kernels c.args.gate.now) the_signatures c.items-streams.result.now input.streams c.args.iterations c.args.workers c.items.result.now text
    c.in-Ok-new.ensures.ok c.requires.kernels c.items-streams.ensures c.items.ensures v c.in-Ok-audit.ensures.only_legal c.in-Ok-audit.ensures.only_illegal)
    c.tell_verdict.ensures.works

pub returns-clause-there : goal.returns-clause-there
returns-clause-there g c =
    let files = g.S.Shelf.holds c.args.shelf.now in
    let input = c.in-Ok.input in
    let v = c.in-Ok-audit.verdict in
    let text = c.in-Ok-load_journal.text in
    verdict_there c.args.iterations c.args.workers (files c.args.graph.now) (files c.args.tokens.now) (files c.args.journal.now) input c.in-Ok.ensures.settles text v
    (λ told is. c.in-Ok-load_journal.ensures.settles told (c.in-Ok.ensures.contents c.args.journal.now ∙ is)) c.tell_verdict.result
    (verdict_given (arc_value c.in-Ok-new.graphs) input.graphs (g.K.Gate.kernels c.args.gate.now) the_signatures c.items-streams.result.now input.streams c.args.iterations c.args.workers c.items.result.now text
    c.in-Ok-new.ensures.ok c.requires.kernels c.items-streams.ensures c.items.ensures v c.in-Ok-audit.ensures.legal c.in-Ok-audit.ensures.illegal)

pub returns-clause-read : goal.returns-clause-read
returns-clause-read g c =
    count_unread (Some (Audit c.args.graph.now c.args.tokens.now c.args.iterations c.args.workers c.args.journal.now)) (g.S.Shelf.faults c.args.shelf.now) (g.S.Shelf.faults c.load_journal.new.shelf) c.tell_verdict.result c.tell_verdict.ensures.read

pub returns-clause-usage : goal.returns-clause-usage
returns-clause-usage g c = usage_unread c.tell_verdict.result c.tell_verdict.ensures.read
