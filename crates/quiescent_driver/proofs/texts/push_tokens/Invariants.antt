use Rattle.std.proofs.Common.{◌≡◌, ◌++◌, drop}
use Rattle.quiescent_driver.specs.Texts.{token_rows}
use Rattle.quiescent_driver.proofs.texts.push_tokens.Given as goal

-- the text so far, and the rows that are left, are all
abbrev pub invariant-loop-output : goal.invariant-loop-output
invariant-loop-output l =
    l.text.items ++ token_rows l.number (drop l.output l.outputs) (drop l.output l.lists) ≡ l.fn.text.items ++ token_rows l.number l.outputs l.lists
