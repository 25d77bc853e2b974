use Rattle.std.proofs.Common.{◌<◌, ◌+◌, ◌^◌, Some, sym, ap, ◌∙◌, rules, arith, FitsSigned, w64}
use Rattle.std.proofs.lemmas.Int.{to_z-of_z, to_z_pos}
use Rattle.token_text.proofs.PlainFacts.{digits_joined, minus_joined, token_digits, token_minus}
use Rattle.token_text.proofs.plain.token_at.Goals as goal

pub returns-then-text-from-eq45-clause-token : goal.returns-then-text-from-eq45-clause-token
returns-then-text-from-eq45-clause-token c =
    let said = c.in_ok-digits.ensures in
    let digits = c.in_ok-digits.digits in
    let lt : c.args.from + 1 < digits.end = omega (arith, said.within.0, c.if-digits-from.false) in
    let fits : FitsSigned w64 c.negated-token.result = search rules in
    rw (to_z-of_z w64 c.negated-token.result fits)
    (token_minus c.args.text.now c.args.from digits.end digits.value lt said.within.1 c.if-text-from-eq45.true said.digits said.value.0 said.value.1 ∙ ap Some (sym c.negated-token.ensures))

pub returns-then-text-from-eq45-clause-joined : goal.returns-then-text-from-eq45-clause-joined
returns-then-text-from-eq45-clause-joined c =
    let said = c.in_ok-digits.ensures in
    let digits = c.in_ok-digits.digits in
    minus_joined c.args.text.now c.args.from digits.end (omega (arith, said.within.0)) said.within.1 c.if-text-from-eq45.true said.digits

pub returns-clause-token : goal.returns-clause-token
returns-clause-token c =
    let said = c.in_ok-digits-2.ensures in
    let digits = c.in_ok-digits-2.digits in
    let lt : c.args.from < digits.end = omega (arith, said.within.0, c.if-digits-from-2.false) in
    let low : digits.value < 2 ^ 63 = omega (arith, said.value.1, c.if-digits.false) in
    rw (to_z_pos w64 digits.value low) (token_digits c.args.text.now c.args.from digits.end digits.value lt said.within.1 c.if-text-from-eq45.false said.digits said.value.0 low)

pub returns-clause-joined : goal.returns-clause-joined
returns-clause-joined c =
    let said = c.in_ok-digits-2.ensures in
    let digits = c.in_ok-digits-2.digits in
    let lt : c.args.from < digits.end = omega (arith, said.within.0, c.if-digits-from-2.false) in
    digits_joined c.args.text.now c.args.from digits.end lt said.within.1 said.digits
