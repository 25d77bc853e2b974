use Rattle.std.proofs.Common.{◌≤◌, length, zip, ap, sym, ◌∙◌, rules, arith, FitsSigned, w64}
use Rattle.std.proofs.lemmas.Int.{to_z-of_z}
use Rattle.std.proofs.lemmas.Slice.Zip.{length-zip}
use Rattle.kernel_gate.specs.Tokens.{running, plus_product}
use Rattle.kernel_set.proofs.Steps.{running_all}
use Rattle.kernel_set.proofs.Near.{part_more, part_fault, zip_between}
use Rattle.kernel_set.proofs.partial_sums.products.Goals as goal

pub returns-in-Err : goal.returns-in-Err
returns-in-Err c =
    let from = c.loop-from.from in
    let to = c.end_of_part-to.result in
    let within : to ≤ length (zip c.args.x.now c.args.z.now) = omega (arith, length-zip c.args.x.now c.args.z.now) in
    let parts = zip_between from to c.args.x.now c.args.z.now c.requires in
    part_fault plus_product _ c.in-Err.fault (zip c.args.x.now c.args.z.now) from to _ (omega arith) within c.loop-from.invariant.1 (ap (running plus_product _) (sym parts) ∙ sym c.in-Err.ensures)

pub loop-from-preserved : goal.loop-from-preserved
loop-from-preserved c =
    let y : FitsSigned w64 c.in-Ok.y = search rules in
    let from = c.loop-from.from in
    let to = c.end_of_part-to.result in
    let within : to ≤ length (zip c.args.x.now c.args.z.now) = omega (arith, length-zip c.args.x.now c.args.z.now) in
    let parts = zip_between from to c.args.x.now c.args.z.now c.requires in (
      c.end_of_part-to.ensures.within,
      rw (to_z-of_z w64 c.in-Ok.y y) (part_more plus_product _ c.in-Ok.y (zip c.args.x.now c.args.z.now) from to _ (omega arith) within c.loop-from.invariant.1 (ap (running plus_product _) (sym parts) ∙ sym c.in-Ok.ensures)),
    )

pub returns : goal.returns
returns c = running_all plus_product _ (zip c.args.x.now c.args.z.now) c.loop-from.from _ (omega (arith, length-zip c.args.x.now c.args.z.now)) c.loop-from.invariant.1
