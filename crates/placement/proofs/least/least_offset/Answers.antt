use Rattle.std.proofs.Common.{arith}
use Rattle.placement.proofs.least.least_offset.Goals as goal

pub least_beside-requires-clause-alike : goal.least_beside-requires-clause-alike
least_beside-requires-clause-alike c =
    let told = rw c.in-Some.is at c.requires.told in
    let filled = told.1 in
    omega arith

pub least_beside-requires-clause-last : goal.least_beside-requires-clause-last
least_beside-requires-clause-last c = rw c.deref.ensures.value (rw c.in-Some.is at c.requires.last)
