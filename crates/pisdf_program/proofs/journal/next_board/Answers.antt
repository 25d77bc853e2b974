use Rattle.std.proofs.Common.{sym, subst, ◌∙◌}
use Rattle.std.specs.Arc.{arc_value}
use Rattle.pisdf_meaning.specs.Run as run
use Rattle.pisdf_program.specs.Journals.{HasNoBoard}
use Rattle.quiescent_driver.specs.Streams.{rest_of}
use Rattle.pisdf_program.proofs.Boards.{refused_readable, refused_whole, whole_at}
use Rattle.quiescent_driver.proofs.Making.{taken_lengths}
use Rattle.quiescent_driver.proofs.Runs.{lacks}
use Rattle.pisdf_program.proofs.journal.next_board.Goals as goal

pub returns-in-Some-clause-none : goal.returns-in-Some-clause-none
returns-in-Some-clause-none g c =
    let graphs = arc_value c.args.graphs.now in
    let lack : run.Lack = record { stream = c.in-Some.lack.stream; has = c.in-Some.lack.has; needs = c.in-Some.lack.needs } in
    subst (HasNoBoard graphs (rest_of c.args.number (run.top_needs graphs) c.args.streams.now.tokens.now)) (sym c.from.ensures)
    (lacks graphs c.args.streams.now.tokens.now c.args.streams.now.needs.now c.args.number lack c.requires.good.valid.valid.in_range.top c.requires.needs c.requires.sound c.in-Some.ensures)

pub run_iteration-requires-clause-inputs : goal.run_iteration-requires-clause-inputs
run_iteration-requires-clause-inputs g c = λ lives within.
    taken_lengths c.args.number c.args.streams.now.needs.now (run.top_needs (arc_value c.args.graphs.now)) c.args.streams.now.tokens.now c.as_slice.result.now
    c.requires.fit c.in-None.ensures (c.as_slice.ensures.value ∙ c.in-Ok.ensures) c.requires.needs

pub returns-in-Ok-run_iteration-clause-whole : goal.returns-in-Ok-run_iteration-clause-whole
returns-in-Ok-run_iteration-clause-whole g c =
    whole_at (arc_value c.args.graphs.now) c.args.streams.now.tokens.now c.args.workers c.args.number c.args.delays.now.lists c.args.streams.now.needs.now c.as_slice.result.now
    (g.K.Gate.kernels c.args.gate.now) c.in-Ok-run_iteration.journal.entries c.requires.kernels c.requires.needs (c.as_slice.ensures.value ∙ c.in-Ok.ensures) c.in-Ok-run_iteration.ensures.journal

pub returns-in-Err-Refused-clause-whole : goal.returns-in-Err-Refused-clause-whole
returns-in-Err-Refused-clause-whole g c =
    whole_at (arc_value c.args.graphs.now) c.args.streams.now.tokens.now c.args.workers c.args.number c.args.delays.now.lists c.args.streams.now.needs.now c.as_slice.result.now
    (g.K.Gate.kernels c.args.gate.now) c.in-Err-Refused.journal.entries c.requires.kernels c.requires.needs (c.as_slice.ensures.value ∙ c.in-Ok.ensures)
    (refused_whole _ c.in-Err-Refused.field-0 c.in-Err-Refused.refusal c.in-Err-Refused.journal c.in-Err-Refused.field-0-is c.in-Err-Refused.ensures.journal)

pub returns-in-Err-Refused-clause-readable : goal.returns-in-Err-Refused-clause-readable
returns-in-Err-Refused-clause-readable g c =
    refused_readable c.in-Err-Refused.field-0 c.in-Err-Refused.refusal c.in-Err-Refused.journal c.in-Err-Refused.field-0-is c.in-Err-Refused.ensures.readable
