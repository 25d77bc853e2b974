use Rattle.csv.specs.Records.{fields_of}
use Rattle.token_text.proofs.StreamFacts.{IsGivenTo}
use Rattle.token_text.proofs.reading.give.Given as goal

abbrev pub invariant-loop-place : goal.invariant-loop-place
invariant-loop-place l = IsGivenTo l.fn.streams l.names l.row (fields_of l.fields) l.place l.streams
