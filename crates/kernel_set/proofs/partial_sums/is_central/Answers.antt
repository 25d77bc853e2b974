use Rattle.std.proofs.Common.{◌^◌, arith, w64}
use Rattle.std.specs.Prelude.{pos, ◌<ℤ◌}
use Rattle.std.proofs.lemmas.Bool.{OnTrue_from}
use Rattle.std.proofs.lemmas.Int.{to_z-of_z, ints}
use Rattle.kernel_set.proofs.Near.{central}
use Rattle.kernel_set.proofs.partial_sums.is_central.Goals as goal

pub returns-then-all-lt-CENTRAL : goal.returns-then-all-lt-CENTRAL
returns-then-all-lt-CENTRAL c =
    let below : c.args.all <ℤ pos (2 ^ 62) = grind (arith, ints) in
    rw (to_z-of_z w64 c.args.all c.ranges.all) (OnTrue_from _ _ (λ above. central c.args.all below above))
