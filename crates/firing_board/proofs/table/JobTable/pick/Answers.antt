use Rattle.std.proofs.Common.{sym, ap, ◌∙◌}
use Rattle.firing_board.specs.Table.View.{TableView}
use Rattle.firing_board.proofs.table.JobTable.pick.Goals as goal

pub returns : goal.returns
returns c = c.pick.ensures c.args.self.now (sym (ap (λ (v : TableView). v.rows) c.self.view_is) ∙ sym c.as_slice.ensures.value)
