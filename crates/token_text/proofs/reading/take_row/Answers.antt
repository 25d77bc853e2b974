use Rattle.std.proofs.Common.{◌<◌, None, Some, length, map, sym, ap, ◌∙◌, inl, inr, true, false, arith, rules}
use Rattle.csv.specs.Records.{fields_of}
use Rattle.token_text.specs.Records.{name_of}
use Rattle.token_text.specs.Streams.{is_among, tokens_named}
use Rattle.token_text.proofs.StreamFacts.{IfErr-weaker, OnOk-both, fault-name, fault-number, fault-repeated, none-among, seen-at, some-among, streams-more}
use Rattle.token_text.proofs.reading.take_row.Goals as goal

pub returns-in_default-clause-fault : goal.returns-in_default-clause-fault
returns-in_default-clause-fault c = λ before e.
    let r = fields_of c.args.fields.now in
    let names = c.args.names.now in
    let none = none-among names c.name_field.result.now None c.in_default.ensures in
    inr (fault-name names (map name_of before) c.args.row r (ap (is_among names) (sym c.name_field.ensures) ∙ none))

pub bounds-streams-place : goal.bounds-streams-place
bounds-streams-place c =
    let found = some-among c.args.names.now c.name_field.result.now (Some c.in-Some.place) c.in-Some.ensures in
    omega (arith, found.1)

pub offset_bounds-streams-place : goal.offset_bounds-streams-place
offset_bounds-streams-place c =
    let found = some-among c.args.names.now c.name_field.result.now (Some c.in-Some.place) c.in-Some.ensures in
    let lt : c.in-Some.place < length c.args.streams.now = omega (arith, found.1) in
    search rules

pub returns-then-is_some-clause-fault : goal.returns-then-is_some-clause-fault
returns-then-is_some-clause-fault c = λ before e.
    let r = fields_of c.args.fields.now in
    let names = c.args.names.now in
    let found = some-among names c.name_field.result.now (Some c.in-Some.place) c.in-Some.ensures in
    let among = ap (is_among names) (sym c.name_field.ensures) ∙ found.0 in
    let seen = seen-at names before (name_of r) c.in-Some.place c.args.streams.now c.index-streams-place.result true e found.1 (found.2 ∙ c.name_field.ensures) c.index-streams-place.is (sym c.if-is_some.ensures) in
    inr (fault-repeated names (map name_of before) c.args.row r among seen)

pub returns-clause-taken : goal.returns-clause-taken
returns-clause-taken c = λ before e.
    let r = fields_of c.args.fields.now in
    let names = c.args.names.now in
    let found = some-among names c.name_field.result.now (Some c.in-Some.place) c.in-Some.ensures in
    let among = ap (is_among names) (sym c.name_field.ensures) ∙ found.0 in
    let new = seen-at names before (name_of r) c.in-Some.place c.args.streams.now c.index-streams-place.result false e found.1 (found.2 ∙ c.name_field.ensures) c.index-streams-place.is (sym c.if-is_some.ensures) in
    OnOk-both _ _ _ c.give.result
    (λ whole given. (fault-number names (map name_of before) c.args.row r among new ∙ whole, given ∙ streams-more names before r new))
    (c.give.ensures.whole c.in-Some.place found.1 (found.2 ∙ c.name_field.ensures)) (c.give.ensures.given (tokens_named before) e)

pub returns-clause-fault : goal.returns-clause-fault
returns-clause-fault c = λ before e.
    let r = fields_of c.args.fields.now in
    let names = c.args.names.now in
    let found = some-among names c.name_field.result.now (Some c.in-Some.place) c.in-Some.ensures in
    let among = ap (is_among names) (sym c.name_field.ensures) ∙ found.0 in
    let new = seen-at names before (name_of r) c.in-Some.place c.args.streams.now c.index-streams-place.result false e found.1 (found.2 ∙ c.name_field.ensures) c.index-streams-place.is (sym c.if-is_some.ensures) in
    let same = fault-number names (map name_of before) c.args.row r among new in
    IfErr-weaker _ _ c.give.result
    (λ fault h. elim h [ inl memory ↦ inl memory | inr number ↦ inr (same ∙ number) ]) c.give.ensures.fault
