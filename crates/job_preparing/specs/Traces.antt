-- The rows of a trace, also of one that no list holds.
use Rattle.std.specs.Prelude.{◌≡◌, ◌≤◌, ◌^◌, ◌++◌, Bool, true, false, List, length}
use Rattle.pisdf_meaning.specs.declared.outcome.TraceRow.{TraceRow}
use Rattle.job_preparing.specs.declared.trace.Rows.{Rows}
use Rattle.job_preparing.specs.declared.trace.Rows.TheOpen.{Rows-F}
use Rattle.job_preparing.specs.declared.trace.Rows.TheOpen.Rows-F.{Held, Lost}
use Rattle.job_preparing.specs.declared.trace.Rows.TheFolds.{fold-Rows}

-- rows, and whether a list holds them
pub record RowsView : Type 0 where
  pub rows : List TraceRow
  pub held : Bool

abbrev pub rows_next : Rows-F RowsView → RowsView
rows_next (Held rows) = record { rows = rows; held = true }
rows_next (Lost first second) = record { rows = first.value.rows ++ second.value.rows; held = false }

abbrev pub rows_by : Rows → RowsView
rows_by = fold-Rows RowsView rows_next

abbrev pub rows_of : Rows → List TraceRow
rows_of rows = (rows_by rows).rows

-- a list holds them, unless they are so many that none does
abbrev pub IsHeldIfShort : Rows → Type 0
IsHeldIfShort rows = (rows_by rows).held ≡ false → 2 ^ 63 ≤ length (rows_of rows)
