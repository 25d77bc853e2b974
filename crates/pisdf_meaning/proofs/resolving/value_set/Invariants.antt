use Rattle.std.proofs.Common.{◌≡◌, drop}
use Rattle.pisdf_meaning.specs.Preparing.{value_set}
use Rattle.pisdf_meaning.proofs.resolving.value_set.Given as goal

abbrev pub invariant-loop-set : goal.invariant-loop-set
invariant-loop-set l = value_set (drop l.set-index l.sets) l.place ≡ value_set l.sets l.place
