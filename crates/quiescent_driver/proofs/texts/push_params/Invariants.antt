use Rattle.std.proofs.Common.{◌≡◌, ◌++◌, drop}
use Rattle.quiescent_driver.specs.Texts.{param_rows}
use Rattle.quiescent_driver.proofs.texts.push_params.Given as goal

-- the text so far, and the rows that are left, are all
abbrev pub invariant-loop-row : goal.invariant-loop-row
invariant-loop-row l = l.text.items ++ param_rows l.number (drop l.row-index l.rows) ≡ l.fn.text.items ++ param_rows l.number l.rows
