use Rattle.std.proofs.Common.{◌+◌, Option, sym, subst}
use Rattle.journal_audit.specs.Asking.{IsBestOf}
use Rattle.journal_audit.specs.declared.table.Asked.{Asked}
use Rattle.journal_audit.proofs.AskedBest.{goes_on}
use Rattle.journal_audit.proofs.AskedRows.{if_asked, if_best}
use Rattle.journal_audit.proofs.asking.best_of.Goals as goal

pub loop-key-preserved : goal.loop-key-preserved
loop-key-preserved c = λ board m so.
    let rows = c.args.rows.now in
    let P : Option Asked → Type 0 = λ best. IsBestOf board m c.args.worker c.args.calls rows (c.loop-key.key + 1) best in
    subst P (sym (c.better-best.ensures c.args.graphs.now board m c.args.calls so))
    (goes_on board m c.args.calls rows c.args.worker c.loop-key.key c.loop-key.best c.asked_at.result (c.loop-key.invariant board m so) (c.asked_at.ensures board m so))

pub better-best-requires-clause-stands : goal.better-best-requires-clause-stands
better-best-requires-clause-stands c = let r = c.requires in (c.args.graphs.now, r.0, r.1, r.2)

pub better-best-requires-clause-best : goal.better-best-requires-clause-best
better-best-requires-clause-best c =
    let r = c.requires in
    if_best r.0 r.1 c.args.worker c.args.calls c.args.rows.now c.loop-key.key c.loop-key.best (c.loop-key.invariant r.0 r.1 r.2)

pub better-best-requires-clause-next : goal.better-best-requires-clause-next
better-best-requires-clause-next c =
    let r = c.requires in
    if_asked r.0 r.1 c.args.worker c.args.calls c.args.rows.now c.loop-key.key c.asked_at.result (c.asked_at.ensures r.0 r.1 r.2)
