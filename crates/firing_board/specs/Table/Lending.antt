-- How the job of a row is lent.
use Rattle.std.specs.Prelude.{Option}
use Rattle.std.specs.Borrow.{Fml, Lends, MutBor}
use Rattle.std.specs.contracts.option.Option.{the_row as option_row}
use Rattle.graph_firing.specs.View.{OpenView}
use Rattle.graph_firing.specs.contracts.job.OpenJob as job
use Rattle.firing_board.specs.Table.Slots.{change_row}
use Rattle.firing_board.specs.contracts.table.row.Row as row
use Rattle.firing_board.specs.declared.table.row.Row.{Row}

-- the row has the job then as it was left
abbrev pub LendsJob : MutBor (Option Row) → MutBor OpenView → Fml
LendsJob s r = Lends (option_row row.the_row) job.the_row s r (λ left. change_row (λ _. left) s.now)
