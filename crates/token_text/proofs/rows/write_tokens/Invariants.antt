use Rattle.token_text.proofs.RowFacts.{IsWrittenTo}
use Rattle.token_text.specs.Rows.{tokens_text}
use Rattle.token_text.proofs.rows.write_tokens.Given as goal

abbrev pub invariant-loop-token : goal.invariant-loop-token
invariant-loop-token l = IsWrittenTo l.fn.text.items (tokens_text l.fn.iteration l.fn.name l.fn.tokens) l.text.items l.tokens l.token-index
