use Rattle.token_text.proofs.RecordFacts.{all-records}
use Rattle.token_text.proofs.reading.read_tokens.Goals as goal

pub returns-in_err-streams-clause-records : goal.returns-in_err-streams-clause-records
returns-in_err-streams-clause-records c = all-records c.args.bytes.now

pub returns-in-Some-clause-records : goal.returns-in-Some-clause-records
returns-in-Some-clause-records c = all-records c.args.bytes.now
