use Rattle.std.proofs.Common.{sym}
use Rattle.csv.specs.Records.{fields_of}
use Rattle.token_text.proofs.FieldFacts.{field_at-none, field_at-some}
use Rattle.token_text.proofs.record.name_field.Goals as goal

pub returns-in-Some : goal.returns-in-Some
returns-in-Some c = sym (field_at-some (fields_of c.args.fields.now) 0 c.in-Some.name.now c.in-Some.ensures.value).1

pub returns-in-None : goal.returns-in-None
returns-in-None c = sym (field_at-none (fields_of c.args.fields.now) 0 c.in-None.ensures.value).1
