use Rattle.std.proofs.Common.{◌-◌, length}
use Rattle.token_text.proofs.PlainFacts.{IsRowTo}
use Rattle.token_text.proofs.plain.row_at.Given as goal

abbrev pub invariant-fields : goal.invariant-fields
invariant-fields l = IsRowTo l.text l.from l.name_end l.at l.tokens.items

abbrev pub decreases-fields : goal.decreases-fields
decreases-fields l = length l.text - l.at
