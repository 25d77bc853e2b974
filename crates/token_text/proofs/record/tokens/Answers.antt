use Rattle.std.proofs.Common.{◌∙◌, inr, rules, FitsSigned, w64}
use Rattle.std.proofs.lemmas.Int.{to_z-of_z}
use Rattle.csv.specs.Records.{fields_of}
use Rattle.token_text.proofs.FieldFacts.{field_at-none, field_at-some, tokens-end, tokens-fault, tokens-more}
use Rattle.token_text.proofs.record.tokens.Goals as goal

pub returns-in-None-clause-fault : goal.returns-in-None-clause-fault
returns-in-None-clause-fault c =
    let r = fields_of c.args.fields.now in
    let at = field_at-some r c.loop-bytes.field c.in-Some.bytes.now c.in-Some.ensures.value in
    inr (tokens-fault r c.args.row c.loop-bytes.field c.loop-bytes.tokens.items c.in-Some.bytes.now c.loop-bytes.invariant at.0 c.in-None.ensures)

pub loop-bytes-preserved : goal.loop-bytes-preserved
loop-bytes-preserved c =
    let r = fields_of c.args.fields.now in
    let at = field_at-some r c.loop-bytes.field c.in-Some.bytes.now c.in-Some.ensures.value in
    let fits : FitsSigned w64 c.in-Some-token.value = search rules in
    let pushed = simp to_z-of_z at c.in_ok-push-in-Some-token.ensures.items in
    rw pushed (tokens-more r c.loop-bytes.field c.loop-bytes.tokens.items c.in-Some.bytes.now c.in-Some-token.value c.loop-bytes.invariant at.0 c.in-Some-token.ensures)

pub returns-clause-whole : goal.returns-clause-whole
returns-clause-whole c =
    let r = fields_of c.args.fields.now in
    let at = field_at-none r c.loop-bytes.field c.in_default.ensures.value in
    let h = tokens-end r c.args.row c.loop-bytes.field c.loop-bytes.tokens.items c.loop-bytes.invariant at.0 in
    (h.0, c.new.ensures ∙ h.1)
