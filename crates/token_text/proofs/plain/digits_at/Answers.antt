use Rattle.std.proofs.Common.{◌≡◌, true, get_or, sym, ◌∙◌, arith}
use Rattle.std.specs.Char.{is_ascii_digit}
use Rattle.token_text.proofs.PlainFacts.{digit_small, digits_more, digits_start}
use Rattle.token_text.proofs.plain.digits_at.Goals as goal

pub loop-at-init : goal.loop-at-init
loop-at-init c = (omega arith, c.requires, digits_start c.args.text.now c.args.from, omega arith)

pub loop-at-preserved : goal.loop-at-preserved
loop-at-preserved c =
    let text = c.args.text.now in
    let at = c.loop-at.at in
    let digit : is_ascii_digit (get_or text at 0) ≡ true = sym c.is_ascii_digit.ensures.value ∙ c.if-not-is_ascii_digit.false in
    let small = digit_small (get_or text at 0) digit in
    let more = digits_more text c.args.from at c.loop-at.value c.loop-at.invariant.0 c.loop-at-test.true digit c.loop-at.invariant.2 in
    (omega arith, omega arith, rw c.from.ensures more, omega (arith, small, c.from.ensures))
