use Rattle.std.proofs.Common.{◌-◌, length}
use Rattle.csv.specs.Records.{fields_of}
use Rattle.token_text.proofs.FieldFacts.{AreTokensTo}
use Rattle.token_text.proofs.record.tokens.Given as goal

abbrev pub invariant-loop-bytes : goal.invariant-loop-bytes
invariant-loop-bytes l = AreTokensTo (fields_of l.fields) l.field l.tokens.items

abbrev pub decreases-loop-bytes : goal.decreases-loop-bytes
decreases-loop-bytes l = length l.fields.ends - l.field
