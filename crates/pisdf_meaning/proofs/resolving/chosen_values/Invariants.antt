use Rattle.std.proofs.Common.{◌≡◌, ◌++◌, drop}
use Rattle.pisdf_meaning.specs.Preparing.{chosen_from}
use Rattle.pisdf_meaning.proofs.resolving.chosen_values.Given as goal

-- the values of those so far, and then those of the others
abbrev pub invariant-loop-place : goal.invariant-loop-place
invariant-loop-place l = l.values.items ++ chosen_from l.sets.items l.place (drop l.place l.graph.params) ≡ chosen_from l.sets.items 0 l.graph.params
