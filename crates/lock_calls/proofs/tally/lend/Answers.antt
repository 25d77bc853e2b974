use Rattle.std.proofs.Common.{ap, refl, ◌∙◌}
use Rattle.std.specs.Prelude.{not}
use Rattle.lock_calls.proofs.Places.{may_lend}
use Rattle.lock_calls.proofs.tally.lend.Goals as goal

pub leave-requires-2 : goal.leave-requires-2
leave-requires-2 g c =
    let tally = c.state-tally.result.now in
    may_lend c.enter-held.result.turn.known c.args.pass.known c.enter-held.result.turn.found c.enter-held.result.state.value tally (record { name = tally.name; counts = tally.counts; drawers = c.push.new.self; closed = tally.closed }) c.number-worker.result c.args.label _
    c.enter-held.ensures.known c.enter-held.ensures.found c.state-tally.ensures.value c.number-worker.ensures (c.is_err.ensures.negation ∙ ap not c.if-is_err.false) refl refl refl c.push.ensures.items c.enter-held.ensures.finds
