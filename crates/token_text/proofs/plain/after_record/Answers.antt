use Rattle.std.proofs.Common.{sym, ◌∙◌, arith}
use Rattle.token_text.proofs.PlainFacts.{ended_by_line, ended_by_text}
use Rattle.token_text.proofs.plain.after_record.Goals as goal

pub returns-then-at-text-clause-record : goal.returns-then-at-text-clause-record
returns-then-at-text-clause-record c = ended_by_text c.args.text.now c.args.at c.if-at-text.true

pub returns-clause-record : goal.returns-clause-record
returns-clause-record c = ended_by_line c.args.text.now c.args.at (omega arith) (sym c.is_line_end.ensures ∙ c.if-not-is_line_end.false)
