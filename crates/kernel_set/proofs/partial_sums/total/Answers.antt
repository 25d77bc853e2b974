use Rattle.std.proofs.Common.{sym, rules, arith, FitsSigned, w64}
use Rattle.std.proofs.lemmas.Int.{to_z-of_z}
use Rattle.kernel_set.specs.Near.{plus}
use Rattle.kernel_set.proofs.Near.{part_more, part_fault}
use Rattle.kernel_set.proofs.partial_sums.total.Goals as goal

pub returns-in-Err : goal.returns-in-Err
returns-in-Err c = part_fault plus _ c.in-Err.fault c.args.x.now c.loop-from.from c.end_of_part-to.result _ (omega arith) c.end_of_part-to.ensures.within c.loop-from.invariant.1 (sym c.in-Err.ensures)

pub loop-from-preserved : goal.loop-from-preserved
loop-from-preserved c =
    let y : FitsSigned w64 c.in-Ok.y = search rules in (
      c.end_of_part-to.ensures.within,
      rw (to_z-of_z w64 c.in-Ok.y y) (part_more plus _ c.in-Ok.y c.args.x.now c.loop-from.from c.end_of_part-to.result _ (omega arith) c.end_of_part-to.ensures.within c.loop-from.invariant.1 (sym c.in-Ok.ensures)),
    )
