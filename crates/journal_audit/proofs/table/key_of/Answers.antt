use Rattle.std.proofs.Common.{◌≡◌, ⊎_elim, ◌<◌, ◌≤◌, length, None, sym, ap, ◌∙◌, subst, arith}
use Rattle.std.proofs.lemmas.Bool.{cases_lt}
use Rattle.std.proofs.lemmas.List.{get_or_past}
use Rattle.journal_audit.specs.Table.{IsAt, row_at}
use Rattle.journal_audit.proofs.Rows.{slot_is}
use Rattle.journal_audit.proofs.table.key_of.Goals as goal

pub returns-then-is_at : goal.returns-then-is_at
returns-then-is_at c =
    subst (IsAt c.args.place.now) (slot_is c.args.rows.now c.loop-key.key c.index-rows-key.result c.loop-key-test.true c.index-rows-key.is) (c.is_at.ensures.0 c.if-is_at.true)

pub loop-key-preserved : goal.loop-key-preserved
loop-key-preserved c = λ k less.
    let rows = c.args.rows.now in
    let place = c.args.place.now in
    let key = c.loop-key.key in
    let read = slot_is rows key c.index-rows-key.result c.loop-key-test.true c.index-rows-key.is in
    ⊎_elim
    (λ (l : k < key). c.loop-key.invariant k l)
    (λ (ge : key ≤ k).
    let same : k ≡ key = omega arith in
    λ at. let here = subst (IsAt place) (ap (row_at rows) same ∙ sym read) at in let yes = c.is_at.ensures.1 here in let no = c.if-is_at.false in cc)
    (cases_lt k key)

pub returns : goal.returns
returns c = λ k at.
    let rows = c.args.rows.now in
    let past = c.loop-key-test.false in
    ⊎_elim
    (λ (l : k < length rows). c.loop-key.invariant k (omega arith) at)
    (λ (ge : length rows ≤ k). subst (IsAt c.args.place.now) (get_or_past rows k None ge) at)
    (cases_lt k (length rows))
