use Rattle.std.proofs.Common.{Some}
use Rattle.pisdf_model.specs.Details.{of_each}
use Rattle.pisdf_model.specs.EndTimes.{times_at}
use Rattle.pisdf_model.specs.Wires.{actor_wires}
use Rattle.pisdf_model.proofs.InOrder.{passed_on}
use Rattle.pisdf_model.proofs.Walking.{refuses_here}
use Rattle.pisdf_model.proofs.wires.actors_stand.Goals as goal

pub returns-in_err-actor_stands : goal.returns-in_err-actor_stands
returns-in_err-actor_stands c =
    let fault = c.in_err-actor_stands.field-0.0 in
    let refused = refuses_here (λ a actor. actor_wires (λ b p. times_at c.args.times.now (Some b, p)) c.args.graphs.now a actor) c.loop-number.number c.args.actors.now c.index-actors-number.result fault c.loop-number-test.true c.index-actors-number.is c.in_err-actor_stands.ensures c.loop-number.invariant in
    passed_on (of_each (λ a actor. actor_wires (λ b p. times_at c.args.times.now (Some b, p)) c.args.graphs.now a actor) c.args.actors.now) c.from_residual.result fault c.from_residual.ensures.1 refused
