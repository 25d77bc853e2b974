use Rattle.std.proofs.Common.{◌≡◌, ◌-◌, ◌≤◌, length}
use Rattle.token_text.specs.Plain.{record_at}
use Rattle.token_text.proofs.plain.past_line_ends.Given as goal

abbrev pub invariant-loop-at : goal.invariant-loop-at
invariant-loop-at l = (l.from ≤ l.at) × (l.at ≤ length l.text) × (record_at l.text l.at ≡ record_at l.text l.from)

abbrev pub decreases-loop-at : goal.decreases-loop-at
decreases-loop-at l = length l.text - l.at
