use Rattle.std.proofs.Common.{◌-◌, length}
use Rattle.token_text.proofs.PlainRows.{IsReadPlainly}
use Rattle.token_text.proofs.plain.plain_streams.Given as goal

abbrev pub invariant-rows : goal.invariant-rows
invariant-rows l = IsReadPlainly l.bytes l.names l.at l.streams.items

abbrev pub decreases-rows : goal.decreases-rows
decreases-rows l = length l.bytes - l.at
