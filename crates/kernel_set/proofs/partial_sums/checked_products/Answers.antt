use Rattle.std.proofs.Common.{zip, get_or, ap, ◌∙◌, sym, rules, arith, FitsSigned, w64}
use Rattle.std.specs.Prelude.{pos}
use Rattle.std.proofs.lemmas.Int.{to_z-of_z}
use Rattle.std.proofs.lemmas.Slice.Zip.{get_or-zip, length-zip}
use Rattle.kernel_gate.specs.Tokens.{plus_product}
use Rattle.kernel_set.proofs.Steps.{running_more, running_fault, running_all}
use Rattle.kernel_set.proofs.partial_sums.checked_products.Goals as goal

pub loop-i-preserved : goal.loop-i-preserved
loop-i-preserved c =
    let y : FitsSigned w64 c.in-Ok.y = search rules in
    let first : FitsSigned w64 (get_or c.args.x.now c.loop-i.i (pos 0)) = search rules in
    let second : FitsSigned w64 (get_or c.args.z.now c.loop-i.i (pos 0)) = search rules in
    let pair = get_or-zip c.args.x.now c.args.z.now c.loop-i.i (pos 0, pos 0) c.loop-i-test.true (omega arith) in
    let at = rw (to_z-of_z w64 _ first) at (rw (to_z-of_z w64 _ second) at c.in-Ok.ensures) in
    rw (to_z-of_z w64 c.in-Ok.y y) (running_more plus_product _ _ (zip c.args.x.now c.args.z.now) c.loop-i.i (pos 0, pos 0) _ (omega (arith, length-zip c.args.x.now c.args.z.now)) c.loop-i.invariant (ap (plus_product _) pair ∙ sym at))

pub returns-in-Err : goal.returns-in-Err
returns-in-Err c =
    let start = to_z-of_z w64 c.args.start c.ranges.start in
    let first : FitsSigned w64 (get_or c.args.x.now c.loop-i.i (pos 0)) = search rules in
    let second : FitsSigned w64 (get_or c.args.z.now c.loop-i.i (pos 0)) = search rules in
    let pair = get_or-zip c.args.x.now c.args.z.now c.loop-i.i (pos 0, pos 0) c.loop-i-test.true (omega arith) in
    let at = rw (to_z-of_z w64 _ first) at (rw (to_z-of_z w64 _ second) at c.in-Err.ensures) in
    running_fault plus_product _ _ (zip c.args.x.now c.args.z.now) c.loop-i.i (pos 0, pos 0) _ (omega (arith, length-zip c.args.x.now c.args.z.now)) (rw start at c.loop-i.invariant) (ap (plus_product _) pair ∙ sym at)

pub returns : goal.returns
returns c =
    let start = to_z-of_z w64 c.args.start c.ranges.start in
    running_all plus_product _ (zip c.args.x.now c.args.z.now) c.loop-i.i _ (omega (arith, length-zip c.args.x.now c.args.z.now)) (rw start at c.loop-i.invariant)
