use Rattle.sdf_level.specs.Lists.{AreEmpty, lists_of}
use Rattle.sdf_level.proofs.lists.empty_lists.Given as goal

-- as many empty lists as steps so far
abbrev pub invariant-loop-n : goal.invariant-loop-n
invariant-loop-n g l = AreEmpty l.n (lists_of l.lists.items)
