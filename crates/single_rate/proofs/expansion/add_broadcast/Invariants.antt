use Rattle.std.proofs.Common.{◌≡◌, ◌*◌, ◌++◌}
use Rattle.single_rate.specs.Wires.{broadcast_to}
use Rattle.single_rate.proofs.expansion.add_broadcast.Given as goal

abbrev pub invariant-loop-turn : goal.invariant-loop-turn
invariant-loop-turn l = (l.place ≡ l.turn * l.into.rate) × (l.wires.items ≡ l.initial.wires.items ++ broadcast_to l.link l.into.actor l.into.port l.into.rate 0 0 l.turn)
