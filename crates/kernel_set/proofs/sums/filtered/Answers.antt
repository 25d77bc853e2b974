use Rattle.std.proofs.Common.{◌-◌, zip, length, get_or, reverse, ap, ◌∙◌, sym, rules, arith, FitsSigned, w64}
use Rattle.std.specs.Prelude.{ℤ, pos}
use Rattle.std.proofs.lemmas.Int.{to_z-of_z}
use Rattle.std.proofs.lemmas.Slice.Zip.{get_or-zip, length-zip}
use Rattle.std.proofs.lemmas.List.{length-reverse}
use Rattle.kernel_gate.specs.Tokens.{plus_product}
use Rattle.kernel_set.proofs.Steps.{from_the_end, running_more, running_fault, running_all}
use Rattle.kernel_set.proofs.sums.filtered.Goals as goal

pub loop-j-preserved : goal.loop-j-preserved
loop-j-preserved c =
    let y : FitsSigned w64 c.in-Ok.y = search rules in
    let first : FitsSigned w64 (get_or c.args.taps.now c.loop-j.j (pos 0)) = search rules in
    let second : FitsSigned w64 (get_or c.args.tokens.now (length c.args.taps.now - 1 - c.loop-j.j) (pos 0)) = search rules in
    let pair = get_or-zip c.args.taps.now (reverse c.args.tokens.now) c.loop-j.j (pos 0, pos 0) c.loop-j-test.true (omega (arith, length-reverse c.args.tokens.now))
    ∙ ap (λ (t : ℤ). (get_or c.args.taps.now c.loop-j.j (pos 0), t)) (from_the_end c.args.tokens.now c.loop-j.j (length c.args.taps.now) (omega arith) c.loop-j-test.true) in
    let at = rw (to_z-of_z w64 _ first) at (rw (to_z-of_z w64 _ second) at c.in-Ok.ensures) in
    rw (to_z-of_z w64 c.in-Ok.y y) (running_more plus_product _ _ (zip c.args.taps.now (reverse c.args.tokens.now)) c.loop-j.j (pos 0, pos 0) _ (omega (arith, length-zip c.args.taps.now (reverse c.args.tokens.now), length-reverse c.args.tokens.now)) c.loop-j.invariant (ap (plus_product _) pair ∙ sym at))

pub returns-in-Err : goal.returns-in-Err
returns-in-Err c =
    let first : FitsSigned w64 (get_or c.args.taps.now c.loop-j.j (pos 0)) = search rules in
    let second : FitsSigned w64 (get_or c.args.tokens.now (length c.args.taps.now - 1 - c.loop-j.j) (pos 0)) = search rules in
    let pair = get_or-zip c.args.taps.now (reverse c.args.tokens.now) c.loop-j.j (pos 0, pos 0) c.loop-j-test.true (omega (arith, length-reverse c.args.tokens.now))
    ∙ ap (λ (t : ℤ). (get_or c.args.taps.now c.loop-j.j (pos 0), t)) (from_the_end c.args.tokens.now c.loop-j.j (length c.args.taps.now) (omega arith) c.loop-j-test.true) in
    let at = rw (to_z-of_z w64 _ first) at (rw (to_z-of_z w64 _ second) at c.in-Err.ensures) in
    running_fault plus_product _ _ (zip c.args.taps.now (reverse c.args.tokens.now)) c.loop-j.j (pos 0, pos 0) _ (omega (arith, length-zip c.args.taps.now (reverse c.args.tokens.now), length-reverse c.args.tokens.now)) c.loop-j.invariant (ap (plus_product _) pair ∙ sym at)

pub returns : goal.returns
returns c = running_all plus_product _ (zip c.args.taps.now (reverse c.args.tokens.now)) c.loop-j.j _ (omega (arith, length-zip c.args.taps.now (reverse c.args.tokens.now), length-reverse c.args.tokens.now)) c.loop-j.invariant
