use Rattle.std.proofs.Common.{◌≡◌, ◌^◌, ◌<◌, zip, length, get_or, ap, sym, ◌∙◌, rules, arith, FitsSigned, w64, to_z, of_z}
use Rattle.std.specs.Prelude.{ℤ, pos, Ok, ◌+ℤ◌, ◌*ℤ◌}
use Rattle.std.proofs.lemmas.Int.{to_z-of_z}
use Rattle.std.proofs.lemmas.Slice.Zip.{get_or-zip, length-zip}
use Rattle.kernel_gate.specs.Tokens.{bounded, onward, plus_product}
use Rattle.kernel_set.specs.Near.{IsNear}
use Rattle.kernel_set.proofs.Steps.{bounded_fits, running_more, running_all}
use Rattle.kernel_set.proofs.Near.{near_product, product_fits, sum_fits, wider}
use Rattle.kernel_set.proofs.partial_sums.near_products.Goals as goal

pub loop-i-preserved : goal.loop-i-preserved
loop-i-preserved c =
    let i = c.loop-i.i in
    let x : ℤ = get_or c.args.x.now i (pos 0) in
    let z : ℤ = get_or c.args.z.now i (pos 0) in
    let all : ℤ = to_z w64 c.loop-i.all-bits in
    let x_fits : FitsSigned w64 x = search rules in
    let z_fits : FitsSigned w64 z = search rules in
    let start : to_z w64 (of_z w64 c.args.start) ≡ c.args.start = to_z-of_z w64 c.args.start c.ranges.start in
    let so_far = rw start at c.loop-i.invariant in
    let in_z : i < length c.args.z.now = omega arith in
    let x_near : IsNear x = c.requires.first i c.loop-i-test.true in
    let z_near : IsNear z = c.requires.second i in_z in
    let product = product_fits x z x_near z_near in
    let small = near_product x z x_near z_near in
    let fits : FitsSigned w64 (all +ℤ (x *ℤ z)) = sum_fits c.args.start all (x *ℤ z) i (2 ^ 54) c.requires.start (omega arith) (omega arith) small so_far.1 so_far.2 in
    let next = wider c.args.start all (x *ℤ z) i (2 ^ 54) small so_far.1 so_far.2 in
    let pair = get_or-zip c.args.x.now c.args.z.now i (pos 0, pos 0) c.loop-i-test.true in_z in
    let at : plus_product all (get_or (zip c.args.x.now c.args.z.now) i (pos 0, pos 0)) ≡ Ok (all +ℤ (x *ℤ z)) =
    ap (plus_product all) pair ∙ (ap (λ v. onward v (λ m. bounded (all +ℤ m))) (bounded_fits (x *ℤ z) product) ∙ bounded_fits (all +ℤ (x *ℤ z)) fits) in
    rw (to_z-of_z w64 x x_fits, to_z-of_z w64 z z_fits, to_z-of_z w64 (x *ℤ z) product, to_z-of_z w64 (all +ℤ (x *ℤ z)) fits, start)
    (running_more plus_product all (all +ℤ (x *ℤ z)) (zip c.args.x.now c.args.z.now) i (pos 0, pos 0) _ (omega (arith, length-zip c.args.x.now c.args.z.now)) so_far.0 at, next.0, next.1)

pub overflow_mul-all : goal.overflow_mul-all
overflow_mul-all c =
    let i = c.loop-i.i in
    let x : ℤ = get_or c.args.x.now i (pos 0) in
    let z : ℤ = get_or c.args.z.now i (pos 0) in
    let x_fits : FitsSigned w64 x = search rules in
    let z_fits : FitsSigned w64 z = search rules in
    let in_z : i < length c.args.z.now = omega arith in
    rw (to_z-of_z w64 x x_fits, to_z-of_z w64 z z_fits) (product_fits x z (c.requires.first i c.loop-i-test.true) (c.requires.second i in_z))

pub overflow_add-all : goal.overflow_add-all
overflow_add-all c =
    let i = c.loop-i.i in
    let x : ℤ = get_or c.args.x.now i (pos 0) in
    let z : ℤ = get_or c.args.z.now i (pos 0) in
    let all : ℤ = to_z w64 c.loop-i.all-bits in
    let x_fits : FitsSigned w64 x = search rules in
    let z_fits : FitsSigned w64 z = search rules in
    let in_z : i < length c.args.z.now = omega arith in
    let x_near : IsNear x = c.requires.first i c.loop-i-test.true in
    let z_near : IsNear z = c.requires.second i in_z in
    let so_far = rw (to_z-of_z w64 c.args.start c.ranges.start) at c.loop-i.invariant in
    let fits : FitsSigned w64 (all +ℤ (x *ℤ z)) = sum_fits c.args.start all (x *ℤ z) i (2 ^ 54) c.requires.start (omega arith) (omega arith) (near_product x z x_near z_near) so_far.1 so_far.2 in
    rw (to_z-of_z w64 x x_fits, to_z-of_z w64 z z_fits, to_z-of_z w64 (x *ℤ z) (product_fits x z x_near z_near)) fits

pub returns : goal.returns
returns c =
    let so_far = rw (to_z-of_z w64 c.args.start c.ranges.start) at c.loop-i.invariant in
    sym (running_all plus_product (to_z w64 c.loop-i.all-bits) (zip c.args.x.now c.args.z.now) c.loop-i.i _ (omega (arith, length-zip c.args.x.now c.args.z.now)) so_far.0)
