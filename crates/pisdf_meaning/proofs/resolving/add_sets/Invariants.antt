use Rattle.std.proofs.Common.{◌≡◌, ◌++◌, drop, zip}
use Rattle.pisdf_meaning.proofs.resolving.add_sets.Given as goal

-- what was added, and then what is still to be
abbrev pub invariant-loop-i : goal.invariant-loop-i
invariant-loop-i l = l.sets.items ++ zip (drop l.i l.places) (drop l.i l.values) ≡ l.initial.sets.items ++ zip l.places l.values
