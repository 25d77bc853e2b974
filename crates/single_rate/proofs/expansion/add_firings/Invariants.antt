use Rattle.std.proofs.Common.{◌≡◌, ◌++◌}
use Rattle.single_rate.specs.Wires.{firing_parts}
use Rattle.single_rate.proofs.expansion.add_firings.Given as goal

abbrev pub invariant-loop-turn : goal.invariant-loop-turn
invariant-loop-turn l = l.parts.items ≡ l.initial.parts.items ++ firing_parts l.firings.actor l.firings.port l.firings.rate 0 l.turn
