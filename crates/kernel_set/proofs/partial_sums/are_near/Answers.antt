use Rattle.std.proofs.Common.{get_or, rules, FitsSigned, w64}
use Rattle.std.specs.Prelude.{pos}
use Rattle.std.proofs.lemmas.Int.{to_z-of_z}
use Rattle.kernel_set.proofs.Near.{near_more}
use Rattle.kernel_set.proofs.partial_sums.are_near.Goals as goal

pub loop-t-preserved : goal.loop-t-preserved
loop-t-preserved c =
    let fits : FitsSigned w64 (get_or c.args.x.now c.loop-t.t-index (pos 0)) = search rules in
    near_more c.loop-t.near c.args.x.now c.loop-t.t-index _ c.loop-t.invariant (to_z-of_z w64 _ fits)
