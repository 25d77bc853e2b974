use Rattle.std.proofs.Common.{length}
use Rattle.std.proofs.lemmas.List.Elements.{All-pop}
use Rattle.pisdf_model.specs.Components.{IsStepAmong}
use Rattle.pisdf_model.proofs.components.components.Goals as goal

pub enter-requires-clause-among : goal.enter-requires-clause-among
enter-requires-clause-among c =
    let so_far = c.loop-step.invariant in
    let steps = All-pop (IsStepAmong (length c.args.arrows.now)) c.loop-step.search.steps.items c.pop.new.self.items c.pop.result c.pop.ensures.items so_far.steps in
    rw so_far.times (record { times = so_far.times; components = so_far.components; incomplete = so_far.incomplete; steps = steps.0 })

pub leave-requires-clause-among : goal.leave-requires-clause-among
leave-requires-clause-among c =
    let so_far = c.loop-step.invariant in
    let steps = All-pop (IsStepAmong (length c.args.arrows.now)) c.loop-step.search.steps.items c.pop.new.self.items c.pop.result c.pop.ensures.items so_far.steps in
    rw so_far.times (record { times = so_far.times; components = so_far.components; incomplete = so_far.incomplete; steps = steps.0 })
