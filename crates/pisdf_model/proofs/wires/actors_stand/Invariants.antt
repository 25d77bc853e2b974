use Rattle.std.proofs.Common.{Some}
use Rattle.pisdf_model.specs.EndTimes.{times_at}
use Rattle.pisdf_model.specs.Wires.{actor_wires}
use Rattle.pisdf_model.proofs.Walking.{Stands}
use Rattle.pisdf_model.proofs.wires.actors_stand.Given as goal

abbrev pub invariant-loop-number : goal.invariant-loop-number
invariant-loop-number l = Stands 0 (λ a actor. actor_wires (λ a p. times_at l.times (Some a, p)) l.graphs a actor) l.number l.actors
