use Rattle.std.proofs.Common.{◌-◌, ◌≤◌, length}
use Rattle.token_text.proofs.PlainFacts.{AreDigits}
use Rattle.token_text.proofs.plain.digits_at.Given as goal

abbrev pub invariant-loop-at : goal.invariant-loop-at
invariant-loop-at l = (l.from ≤ l.at) × (l.at ≤ length l.text) × AreDigits l.text l.from l.at l.value × (l.value ≤ 9223372036854775809)

abbrev pub decreases-loop-at : goal.decreases-loop-at
decreases-loop-at l = length l.text - l.at
