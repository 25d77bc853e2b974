use Rattle.std.proofs.Common.{◌∙◌}
use Rattle.param_expr.proofs.Numerals.{digits_are_text, parsed_text}
use Rattle.param_expr.proofs.symbol.number.Goals as goal

pub returns-in-Ok : goal.returns-in-Ok
returns-in-Ok c = c.ok.ensures.value ∙ parsed_text c.in-Ok.text.now c.args.digits.now c.parse.result c.in-Ok.ensures.cases.0 c.parse.ensures.value.0 c.requires.digits c.requires.some

pub returns-in-Err : goal.returns-in-Err
returns-in-Err c = absurd (c.in-Err.ensures.cases.0 (digits_are_text c.args.digits.now c.requires.digits))
