use Rattle.std.proofs.Common.{rules, arith, FitsSigned, w64}
use Rattle.std.proofs.lemmas.Grind.{common_steps}
use Rattle.std.proofs.lemmas.Int.{to_z-of_z}
use Rattle.kernel_set.proofs.Middles.{middle_found}
use Rattle.kernel_set.proofs.counted.middle.Goals as goal

pub returns : goal.returns
returns c =
    let fits : FitsSigned w64 c.select_nth_unstable-token.result.1.now = first_of (search rules, grind (arith, common_steps)) in
    let moved = rw c.copy_from_slice.ensures.after at c.select_nth_unstable-token.ensures.permutation in
    rw (to_z-of_z w64 c.select_nth_unstable-token.result.1.now fits)
    (middle_found c.args.x.now c.select_nth_unstable-token.result.0.now c.select_nth_unstable-token.result.2.now c.select_nth_unstable-token.result.1.now c.requires.odd c.select_nth_unstable-token.ensures.front_len moved c.select_nth_unstable-token.ensures.partitioned)
