use Rattle.std.proofs.Common.{sym, subst}
use Rattle.std.specs.Arc.{arc_value}
use Rattle.firing_board.specs.Table.View.{NothingIsLent}
use Rattle.firing_board.proofs.OfTable.Methods.{all_unlent}
use Rattle.firing_board.proofs.table.JobTable.end.Goals as goal

pub end_rows-requires : goal.end_rows-requires
end_rows-requires c = all_unlent record { graphs = arc_value c.self.inside.graphs; workers = c.self.inside.workers; rows = c.self.inside.rows.items } (subst NothingIsLent (sym c.self.view_is) c.requires)
