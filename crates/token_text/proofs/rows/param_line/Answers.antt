use Rattle.std.proofs.Common.{◌≡◌, ◌∷◌, ◌++◌, [], codes, string_bytes, ◌∙◌, ap, sym, rules}
use Rattle.std.specs.Fmt.{decimal, signed_decimal}
use Rattle.token_text.proofs.RowFacts.{param_text-parts}
use Rattle.token_text.proofs.rows.param_line.Goals as goal

pub returns : goal.returns
returns c =
    let first : string_bytes c.in_ok-row.row ≡ codes "param," ++ (decimal c.args.iteration ++ (44 ∷ c.args.path.now)) = search rules in
    let second : string_bytes c.writeln.new.self ≡ string_bytes c.in_ok-row.row ++ (44 ∷ (c.args.name.now ++ (44 ∷ (signed_decimal c.args.value ++ (10 ∷ []))))) = search rules in
    second ∙ ap (λ t. t ++ (44 ∷ (c.args.name.now ++ (44 ∷ (signed_decimal c.args.value ++ (10 ∷ [])))))) first
    ∙ sym (param_text-parts c.args.iteration c.args.path.now c.args.name.now c.args.value)
