use Rattle.std.proofs.Common.{◌≡◌, ◌*◌, ◌++◌}
use Rattle.single_rate.specs.Wires.{rounded_from}
use Rattle.single_rate.proofs.expansion.add_rounded.Given as goal

abbrev pub invariant-loop-turn : goal.invariant-loop-turn
invariant-loop-turn l = (l.place ≡ l.turn * l.from.rate) × (l.wires.items ≡ l.initial.wires.items ++ rounded_from l.link l.from.actor l.from.port l.from.rate 0 0 l.turn)
