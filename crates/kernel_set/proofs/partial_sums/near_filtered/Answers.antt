use Rattle.std.proofs.Common.{◌≡◌, ◌-◌, ◌^◌, ◌<◌, zip, length, get_or, reverse, ap, sym, ◌∙◌, rules, arith, FitsSigned, w64, to_z}
use Rattle.std.specs.Prelude.{ℤ, pos, Ok, ◌+ℤ◌, ◌*ℤ◌}
use Rattle.std.proofs.lemmas.Int.{to_z-of_z}
use Rattle.std.proofs.lemmas.List.{length-reverse}
use Rattle.std.proofs.lemmas.Slice.Zip.{get_or-zip, length-zip}
use Rattle.kernel_gate.specs.Tokens.{bounded, onward, plus_product}
use Rattle.kernel_set.specs.Near.{IsNear}
use Rattle.kernel_set.proofs.Steps.{bounded_fits, from_the_end, running_more, running_all}
use Rattle.kernel_set.proofs.Near.{at_zero, near_product, product_fits, sum_fits, wider}
use Rattle.kernel_set.proofs.partial_sums.near_filtered.Goals as goal

pub loop-j-preserved : goal.loop-j-preserved
loop-j-preserved c =
    let taps = c.args.taps.now in
    let tokens = c.args.tokens.now in
    let j = c.loop-j.j in
    let n = length taps in
    let x : ℤ = get_or taps j (pos 0) in
    let z : ℤ = get_or tokens (n - 1 - j) (pos 0) in
    let all : ℤ = to_z w64 c.loop-j.all-bits in
    let x_fits : FitsSigned w64 x = search rules in
    let z_fits : FitsSigned w64 z = search rules in
    let in_z : n - 1 - j < length tokens = omega arith in
    let x_near : IsNear x = c.requires.taps j c.loop-j-test.true in
    let z_near : IsNear z = c.requires.tokens (n - 1 - j) in_z in
    let product = product_fits x z x_near z_near in
    let small = near_product x z x_near z_near in
    let so_far = c.loop-j.invariant in
    let fits : FitsSigned w64 (all +ℤ (x *ℤ z)) = sum_fits (pos 0) all (x *ℤ z) j (2 ^ 54) at_zero (omega arith) (omega arith) small so_far.1 so_far.2 in
    let next = wider (pos 0) all (x *ℤ z) j (2 ^ 54) small so_far.1 so_far.2 in
    let pair = get_or-zip taps (reverse tokens) j (pos 0, pos 0) c.loop-j-test.true (omega (arith, length-reverse tokens))
    ∙ ap (λ (t : ℤ). (x, t)) (from_the_end tokens j n (omega arith) c.loop-j-test.true) in
    let at : plus_product all (get_or (zip taps (reverse tokens)) j (pos 0, pos 0)) ≡ Ok (all +ℤ (x *ℤ z)) =
    ap (plus_product all) pair ∙ (ap (λ v. onward v (λ m. bounded (all +ℤ m))) (bounded_fits (x *ℤ z) product) ∙ bounded_fits (all +ℤ (x *ℤ z)) fits) in
    rw (to_z-of_z w64 x x_fits, to_z-of_z w64 z z_fits, to_z-of_z w64 (x *ℤ z) product, to_z-of_z w64 (all +ℤ (x *ℤ z)) fits)
    (running_more plus_product all (all +ℤ (x *ℤ z)) (zip taps (reverse tokens)) j (pos 0, pos 0) _ (omega (arith, length-zip taps (reverse tokens), length-reverse tokens)) so_far.0 at, next.0, next.1)

pub overflow_mul-all : goal.overflow_mul-all
overflow_mul-all c =
    let taps = c.args.taps.now in
    let tokens = c.args.tokens.now in
    let j = c.loop-j.j in
    let n = length taps in
    let x : ℤ = get_or taps j (pos 0) in
    let z : ℤ = get_or tokens (n - 1 - j) (pos 0) in
    let x_fits : FitsSigned w64 x = search rules in
    let z_fits : FitsSigned w64 z = search rules in
    let in_z : n - 1 - j < length tokens = omega arith in
    rw (to_z-of_z w64 x x_fits, to_z-of_z w64 z z_fits) (product_fits x z (c.requires.taps j c.loop-j-test.true) (c.requires.tokens (n - 1 - j) in_z))

pub overflow_add-all : goal.overflow_add-all
overflow_add-all c =
    let taps = c.args.taps.now in
    let tokens = c.args.tokens.now in
    let j = c.loop-j.j in
    let n = length taps in
    let x : ℤ = get_or taps j (pos 0) in
    let z : ℤ = get_or tokens (n - 1 - j) (pos 0) in
    let all : ℤ = to_z w64 c.loop-j.all-bits in
    let x_fits : FitsSigned w64 x = search rules in
    let z_fits : FitsSigned w64 z = search rules in
    let in_z : n - 1 - j < length tokens = omega arith in
    let x_near : IsNear x = c.requires.taps j c.loop-j-test.true in
    let z_near : IsNear z = c.requires.tokens (n - 1 - j) in_z in
    let so_far = c.loop-j.invariant in
    let fits : FitsSigned w64 (all +ℤ (x *ℤ z)) = sum_fits (pos 0) all (x *ℤ z) j (2 ^ 54) at_zero (omega arith) (omega arith) (near_product x z x_near z_near) so_far.1 so_far.2 in
    rw (to_z-of_z w64 x x_fits, to_z-of_z w64 z z_fits, to_z-of_z w64 (x *ℤ z) (product_fits x z x_near z_near)) fits

pub returns : goal.returns
returns c =
    sym (running_all plus_product (to_z w64 c.loop-j.all-bits) (zip c.args.taps.now (reverse c.args.tokens.now)) c.loop-j.j _
    (omega (arith, length-zip c.args.taps.now (reverse c.args.tokens.now), length-reverse c.args.tokens.now)) c.loop-j.invariant.0)
