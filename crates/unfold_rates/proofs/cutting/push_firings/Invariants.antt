use Rattle.std.proofs.Common.{◌≡◌, ◌++◌}
use Rattle.unfold_rates.specs.Cut.{firings_rows}
use Rattle.unfold_rates.proofs.cutting.push_firings.Given as goal

abbrev pub invariant-loop-turn : goal.invariant-loop-turn
invariant-loop-turn l = l.trace.items ≡ l.initial.trace.items ++ firings_rows l.top l.actor l.first l.turn l.rows
