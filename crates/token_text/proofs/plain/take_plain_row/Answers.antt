use Rattle.std.proofs.Common.{◌<◌, Some, false, length, set, ap, sym, rules, arith}
use Rattle.std.specs.List.{between}
use Rattle.token_text.proofs.PlainRows.{row_taken}
use Rattle.token_text.proofs.StreamFacts.{seen-at, some-among}
use Rattle.token_text.proofs.plain.take_plain_row.Goals as goal

pub bounds-streams-place : goal.bounds-streams-place
bounds-streams-place c =
    let found = some-among c.args.names.now (between c.args.from c.in-Some.row.name_end c.args.text.now) (Some c.in-Some-place_of.place) c.in-Some-place_of.ensures in
    omega (arith, found.1)

pub offset_bounds-streams-place : goal.offset_bounds-streams-place
offset_bounds-streams-place c =
    let found = some-among c.args.names.now (between c.args.from c.in-Some.row.name_end c.args.text.now) (Some c.in-Some-place_of.place) c.in-Some-place_of.ensures in
    let lt : c.in-Some-place_of.place < length c.args.streams.now = omega (arith, found.1) in
    search rules

pub bounds-streams-place-2 : goal.bounds-streams-place-2
bounds-streams-place-2 c =
    let found = some-among c.args.names.now (between c.args.from c.in-Some.row.name_end c.args.text.now) (Some c.in-Some-place_of.place) c.in-Some-place_of.ensures in
    omega (arith, found.1)

pub offset_bounds-streams-place-2 : goal.offset_bounds-streams-place-2
offset_bounds-streams-place-2 c =
    let found = some-among c.args.names.now (between c.args.from c.in-Some.row.name_end c.args.text.now) (Some c.in-Some-place_of.place) c.in-Some-place_of.ensures in
    let lt : c.in-Some-place_of.place < length c.args.streams.now = omega (arith, found.1) in
    search rules

pub returns-clause-taken : goal.returns-clause-taken
returns-clause-taken c = λ before e.
    let names = c.args.names.now in
    let place = c.in-Some-place_of.place in
    let row = c.in-Some.row in
    let name = between c.args.from row.name_end c.args.text.now in
    let found = some-among names name (Some place) c.in-Some-place_of.ensures in
    let read = rw c.in-Some.is at c.in_ok-row.ensures.row in
    let new = seen-at names before name place c.args.streams.now c.index-streams-place.result false e found.1 found.2 c.index-streams-place.is (sym c.if-is_some.ensures) in
    row_taken names c.args.text.now c.args.from row.name_end row.end row.tokens.items place before c.args.streams.now (set c.args.streams.now place (Some c.new.result)) read found.1 found.2
    c.if-not-stands_once.ensures found.0 new e (ap (λ t. set c.args.streams.now place (Some t)) c.new.ensures)
