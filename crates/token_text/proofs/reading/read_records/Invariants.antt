use Rattle.std.proofs.Common.{◌-◌, length}
use Rattle.token_text.proofs.ReadingFacts.{IsReading}
use Rattle.token_text.proofs.reading.read_records.Given as goal

abbrev pub invariant-rows : goal.invariant-rows
invariant-rows l = IsReading l.bytes l.names l.reader l.row l.streams.items

abbrev pub decreases-rows : goal.decreases-rows
decreases-rows l = length l.bytes - l.row
