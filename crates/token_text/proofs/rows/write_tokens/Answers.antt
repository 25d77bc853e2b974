use Rattle.std.proofs.Common.{◌≡◌, ◌∷◌, ◌++◌, codes, string_bytes, ◌∙◌, ap, rules, arith, get_or, pos, FitsSigned, w64}
use Rattle.std.proofs.lemmas.Int.{to_z-of_z}
use Rattle.std.specs.Fmt.{decimal}
use Rattle.token_text.specs.Rows.{tokens_text}
use Rattle.token_text.proofs.RowFacts.{one-left, tokens_text-parts, written-more, written-start}
use Rattle.token_text.proofs.rows.write_tokens.Goals as goal

pub loop-token-init : goal.loop-token-init
loop-token-init c =
    let head : string_bytes c.in_ok-field.field ≡ codes "tokens," ++ (decimal c.args.iteration ++ (44 ∷ c.args.name.now)) = search rules in
    written-start c.args.text.now.items (codes "tokens," ++ (decimal c.args.iteration ++ (44 ∷ c.args.name.now))) (tokens_text c.args.iteration c.args.name.now c.args.tokens.now)
    c.extend_from_slice.new.self.items c.args.tokens.now (tokens_text-parts c.args.iteration c.args.name.now c.args.tokens.now)
    (c.in_ok-extend_from_slice.ensures.items ∙ ap (λ t. c.args.text.now.items ++ t) (c.as_bytes.ensures.value ∙ head))

pub loop-token-preserved : goal.loop-token-preserved
loop-token-preserved c =
    let z = get_or c.args.tokens.now c.loop-token.token-index (pos 0) in
    let fits : FitsSigned w64 z = search rules in
    let grown = simp to_z-of_z at c.in_ok-write_token.ensures.row in
    written-more c.args.text.now.items (tokens_text c.args.iteration c.args.name.now c.args.tokens.now) c.loop-token.text.items c.args.tokens.now c.loop-token.token-index
    c.write_token.new.text.items z c.loop-token.invariant (one-left c.args.tokens.now c.loop-token.token-index (omega arith)) grown
