use Rattle.std.proofs.Common.{◌≡◌, false, get_or, rules, arith}
use Rattle.std.proofs.lemmas.Grind.{common_steps}
use Rattle.token_text.specs.Plain.{ends_field}
use Rattle.token_text.proofs.PlainFacts.{field_more, field_start}
use Rattle.token_text.proofs.plain.end_of_field.Goals as goal

pub loop-at-init : goal.loop-at-init
loop-at-init c = (omega arith, c.requires, field_start c.args.text.now c.args.from)

pub loop-at-preserved : goal.loop-at-preserved
loop-at-preserved c =
    let text = c.args.text.now in
    let at = c.loop-at.at in
    let joins : ends_field (get_or text at 0) ≡ false = first_of (cc, search rules, grind (arith, common_steps)) in
    (omega arith, omega arith, field_more text c.args.from at c.loop-at.invariant.0 (omega arith) joins c.loop-at.invariant.2)
