use Rattle.std.proofs.Common.{◌∙◌, sym}
use Rattle.token_text.proofs.TokenFacts.{token_of-empty, token_of-minus, token_of-plain}
use Rattle.token_text.proofs.token.token.Goals as goal

pub returns-in_err-first : goal.returns-in_err-first
returns-in_err-first c = c.from_residual.ensures ∙ sym (token_of-empty c.args.field.now c.in_err-first.ensures.cases)

pub returns-then-first-eq45 : goal.returns-then-first-eq45
returns-then-first-eq45 c =
    token_of-minus c.args.field.now c.in_ok-first.first.now c.in_ok-first.rest.now c.negative.result c.in_ok-first.ensures.cases.0 c.if-first-eq45.true c.negative.ensures

pub returns : goal.returns
returns c =
    token_of-plain c.args.field.now c.in_ok-first.first.now c.in_ok-first.rest.now c.non_negative.result c.in_ok-first.ensures.cases.0 c.if-first-eq45.false c.non_negative.ensures
