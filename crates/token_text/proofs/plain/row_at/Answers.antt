use Rattle.std.proofs.Common.{◌≡◌, get_or, rules, arith, FitsSigned, w64}
use Rattle.std.proofs.lemmas.Bool.{ne_eqb}
use Rattle.std.proofs.lemmas.Int.{to_z-of_z}
use Rattle.token_text.proofs.PlainFacts.{row_end, row_more, row_start}
use Rattle.token_text.proofs.plain.row_at.Goals as goal

pub fields-init : goal.fields-init
fields-init c =
    let text = c.args.text.now in
    let named = c.end_of_field-name_end.ensures in
    rw c.new-tokens.ensures.items
    (row_start text c.args.from c.end_of_field-name_end.result c.requires.within named.within.1 c.requires.begins (ne_eqb (get_or text c.args.from 0) 34 c.if-text-from-eq34.false) named.joined)

pub fields-preserved : goal.fields-preserved
fields-preserved c =
    let text = c.args.text.now in
    let at = c.fields.at in
    let said = c.in-Some.ensures in
    let field = c.in-Some.field in
    let fits : FitsSigned w64 c.in-Some.field.token = search rules in
    let pushed = simp to_z-of_z at c.in_ok-push-in-Some.ensures.items in
    let comma : get_or text at 0 ≡ 44 = first_of (cc, omega arith, search rules) in
    rw pushed
    (row_more text c.args.from c.end_of_field-name_end.result at field.end c.fields.tokens.items field.token c.fields.invariant c.fields-test.true comma said.within.0 said.within.1 said.token said.joined)

pub returns-in-Some-after_record-clause-row : goal.returns-in-Some-after_record-clause-row
returns-in-Some-after_record-clause-row c = first_of (search (rules, row_end), grind (arith, row_end))
