use Rattle.std.proofs.Common.{◌≡◌, sym, ap, ◌∙◌, get_or, [], arith}
use Rattle.std.specs.Str.{bytes_eq}
use Rattle.csv.specs.Records.{fields_of}
use Rattle.token_text.specs.Records.{name_of}
use Rattle.token_text.proofs.StreamFacts.{given-end, given-more, given-skip, given-start, same-read}
use Rattle.token_text.proofs.reading.give.Goals as goal
use Rattle.token_text.proofs.reading.give.Goals.{then-eq+in_ok-tokens+in-Some-1, then-eq+in_ok-tokens+in-None-1, else-eq}

pub loop-place-init : goal.loop-place-init
loop-place-init c = given-start c.args.streams.now c.args.names.now c.args.row (fields_of c.args.fields.now) c.requires

pub loop-place-preserved : goal.loop-place-preserved
loop-place-preserved c =
    let names = c.args.names.now in
    let place = c.loop-place.place in
    let r = fields_of c.args.fields.now in
    let name = c.as_bytes.ensures.value ∙ c.text.ensures ∙ c.index-names-place.is ∙ same-read names place c.index-names-place.result [] (omega arith) in
    let tested : bytes_eq (get_or names place []) (name_of r) ≡ c.eq.result =
    sym (c.eq.ensures ∙ ap (λ t. bytes_eq t c.name_field-name.result.now) name ∙ ap (bytes_eq (get_or names place [])) c.name_field-name.ensures) in
    elim c.if-eq.branch [
      | then-eq+in_ok-tokens+in-Some-1 w ↦
          given-more c.args.streams.now names c.args.row r place c.loop-place.streams c.if-eq.streams w.in_ok-tokens.field-0 c.loop-place.invariant (omega arith)
          (tested ∙ w.if-eq.true) w.in_ok-tokens.ensures.whole.0 w.in_ok-tokens.ensures.whole.1 w.streams-is
      | then-eq+in_ok-tokens+in-None-1 w ↦
          given-more c.args.streams.now names c.args.row r place c.loop-place.streams c.if-eq.streams w.in_ok-tokens.field-0 c.loop-place.invariant (omega arith)
          (tested ∙ w.if-eq.true) w.in_ok-tokens.ensures.whole.0 w.in_ok-tokens.ensures.whole.1 w.streams-is
      | else-eq w ↦
          given-skip c.args.streams.now names c.args.row r place c.loop-place.streams c.if-eq.streams c.loop-place.invariant (omega arith)
          (tested ∙ w.if-eq.false) w.streams-is
    ]

pub returns-clause-given : goal.returns-clause-given
returns-clause-given c =
    given-end c.args.streams.now c.args.names.now c.args.row (fields_of c.args.fields.now) c.loop-place.place c.loop-place.streams c.loop-place.invariant (omega arith)
