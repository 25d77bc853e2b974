use Rattle.std.proofs.Common.{is_some, length, sym, ap, ◌∙◌}
use Rattle.std.specs.List.{count_by}
use Rattle.firing_board.specs.Table.View.{TableView, keys_of}
use Rattle.firing_board.proofs.OfTable.Keys.{keys_many}
use Rattle.firing_board.proofs.table.JobTable.open_jobs.Goals as goal

pub returns : goal.returns
returns c = c.count_rows.ensures ∙ (ap (count_by is_some) c.as_slice.ensures.value ∙ (sym (keys_many c.self.inside.rows.items) ∙ ap (λ (v : TableView). length (keys_of v)) c.self.view_is))
