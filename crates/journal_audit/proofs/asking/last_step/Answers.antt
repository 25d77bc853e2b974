use Rattle.std.proofs.Common.{ℕ, List, drop, ◌∙◌, subst}
use Rattle.journal_audit.specs.Table.{IsAt, IsKeyOf, row_at}
use Rattle.journal_audit.proofs.AskedRows.{some_there}
use Rattle.journal_audit.proofs.LastSteps.{found_at, open_round, row_found, step_by, tail_is, valid_job}
use Rattle.journal_audit.proofs.asking.last_step.Goals as goal

pub unreachable-requires : goal.unreachable-requires
unreachable-requires c =
    let law = c.rules_are_lawful.ensures in
    let rows = c.args.rows.now in
    let place = c.args.place.now in
    let s = c.requires.stands in
    let none = subst (IsKeyOf rows (drop 1 place)) c.in-None.is (subst (λ (p : List ℕ). IsKeyOf rows p c.key_of-found.result) (tail_is place) c.key_of-found.ensures) in
    found_at law s.0 rows s.1 s.2 s.3 (drop 1 place) (open_round law s.0 rows s.1 s.2 s.3 place c.requires.some s.4) none

pub row_at-row-requires : goal.row_at-row-requires
row_at-row-requires c =
    let law = c.rules_are_lawful.ensures in
    let rows = c.args.rows.now in
    let place = c.args.place.now in
    let s = c.requires.stands in
    let key = c.in-Some.key in
    let r = row_found law s.0 rows s.1 s.2 s.3 (drop 1 place) key (subst (IsKeyOf rows (drop 1 place)) c.in-Some.is (subst (λ (p : List ℕ). IsKeyOf rows p c.key_of-found.result) (tail_is place) c.key_of-found.ensures)) in
    some_there (row_at rows key) r.0 r.1

pub step_of-requires-clause-valid : goal.step_of-requires-clause-valid
step_of-requires-clause-valid c =
    let s = c.requires.stands in
    valid_job c.rules_are_lawful.ensures s.0 c.args.rows.now s.1 s.2 s.3 c.in-Some.key c.row_at-row.result.now c.row_at-row.ensures

pub step_of-requires-clause-call : goal.step_of-requires-clause-call
step_of-requires-clause-call c =
    let law = c.rules_are_lawful.ensures in
    let rows = c.args.rows.now in
    let place = c.args.place.now in
    let s = c.requires.stands in
    let key = c.in-Some.key in
    let row = c.row_at-row.result.now in
    let at = subst (IsAt (drop 1 place)) c.row_at-row.ensures (subst (IsKeyOf rows (drop 1 place)) c.in-Some.is (subst (λ (p : List ℕ). IsKeyOf rows p c.key_of-found.result) (tail_is place) c.key_of-found.ensures)) in
    let step = step_by law s.0 rows s.1 s.2 s.3 place c.requires.some s.4 key row c.row_at-row.ensures at in
    (s.1.graphs.graphs, s.1.workers, step.called, s.3.jobs key row c.row_at-row.ensures, step.task_is)

pub returns : goal.returns
returns c = λ graphs board m so opened.
    let law = c.rules_are_lawful.ensures in
    let rows = c.args.rows.now in
    let place = c.args.place.now in
    let key = c.in-Some.key in
    let row = c.row_at-row.result.now in
    let at = subst (IsAt (drop 1 place)) c.row_at-row.ensures (subst (IsKeyOf rows (drop 1 place)) c.in-Some.is (subst (λ (p : List ℕ). IsKeyOf rows p c.key_of-found.result) (tail_is place) c.key_of-found.ensures)) in
    let step = step_by law graphs rows board m so place c.requires.some opened key row c.row_at-row.ensures at in
    c.step_of.ensures board board.workers (so.jobs key row c.row_at-row.ensures) ∙ step.step_is
