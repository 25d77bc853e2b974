use Rattle.std.proofs.Common.{◌+◌, Option, sym, subst}
use Rattle.firing_board.specs.Table.AskedRows.{IsBestOf}
use Rattle.firing_board.specs.declared.table.pick.Asked.{Asked}
use Rattle.firing_board.proofs.OfTable.AskedBest.{goes_on}
use Rattle.firing_board.proofs.table.pick.best_of.Goals as goal

pub loop-key-preserved : goal.loop-key-preserved
loop-key-preserved c =
    let rows = c.args.rows.now in
    let next = c.asked_at in
    let P : Option Asked → Type 0 = λ best. IsBestOf c.args.worker c.args.calls rows (c.loop-key.key + 1) best in
    subst P (sym c.better-best.ensures) (goes_on rows c.args.worker c.args.calls c.loop-key.key c.loop-key.best next.result c.loop-key.invariant next.ensures)
