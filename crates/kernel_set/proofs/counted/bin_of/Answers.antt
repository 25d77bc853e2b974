use Rattle.std.proofs.Common.{refl, arith, w64}
use Rattle.std.specs.Prelude.{◌≤ℤ◌, ◌+ℤ◌, neg_ℤ}
use Rattle.std.proofs.lemmas.Int.{to_z-of_z, ints}
use Rattle.kernel_set.proofs.Bins.{bin_is, width_is, gap_is}
use Rattle.kernel_set.proofs.counted.bin_of.Goals as goal

pub returns-clause-within : goal.returns-clause-within
returns-clause-within c b =
    let low = c.args.low in
    let t = c.args.t in
    let width = rw (to_z-of_z w64 c.args.width c.ranges.width) at c.unsigned_abs.ensures.value in
    let gap = rw (to_z-of_z w64 low c.ranges.low) at (rw (to_z-of_z w64 t c.ranges.t) at c.abs_diff.ensures) in
    let le : low ≤ℤ t = grind (arith, ints) in
    let wide = width_is c.args.width c.unsigned_abs.result c.requires width in
    bin_is low c.args.width t c.abs_diff.result c.unsigned_abs.result b wide.0 wide.1 (gap_is low t (t +ℤ neg_ℤ low) c.abs_diff.result le refl gap)
