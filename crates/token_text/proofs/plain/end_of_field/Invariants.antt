use Rattle.std.proofs.Common.{◌≡◌, ◌-◌, ◌≤◌, [], length}
use Rattle.std.specs.List.{between}
use Rattle.token_text.specs.Plain.{field_at}
use Rattle.token_text.proofs.plain.end_of_field.Given as goal

abbrev pub invariant-loop-at : goal.invariant-loop-at
invariant-loop-at l = (l.from ≤ l.at) × (l.at ≤ length l.text) × (field_at [] (between l.from l.at l.text) l.text l.at ≡ field_at [] [] l.text l.from)

abbrev pub decreases-loop-at : goal.decreases-loop-at
decreases-loop-at l = length l.text - l.at
