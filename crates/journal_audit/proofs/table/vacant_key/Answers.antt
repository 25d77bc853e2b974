use Rattle.std.proofs.Common.{◌<◌, length, refl, sym, ◌∙◌, arith}
use Rattle.journal_audit.proofs.Rows.{none_of, slot_is}
use Rattle.journal_audit.proofs.table.vacant_key.Goals as goal

pub returns-then-is_none : goal.returns-then-is_none
returns-then-is_none c =
    let rows = c.args.rows.now.items in
    let key = c.loop-key.key in
    let end = c.len-key-end.ensures in
    let test = c.loop-key-test.true in
    let inside : key < length rows = omega arith in
    let read = slot_is rows key c.index.result.now inside c.index.ensures in
    (record { inside = inside; none = sym read ∙ none_of c.index.result.now c.is_none.result c.is_none.ensures c.if-is_none.true }, λ k. refl)
