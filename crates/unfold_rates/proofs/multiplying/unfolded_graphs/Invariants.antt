use Rattle.std.proofs.Common.{◌≡◌, take}
use Rattle.unfold_rates.specs.Multiplied.{multiplied_at}
use Rattle.unfold_rates.proofs.multiplying.unfolded_graphs.Given as goal

abbrev pub invariant-loop-place : goal.invariant-loop-place
invariant-loop-place l = l.list.items ≡ take l.place (multiplied_at l.times l.graphs.top l.graphs.graphs)
