use Rattle.std.proofs.Common.{◌≡◌, ◌++◌, ◌∷◌, [], codes, string_bytes, slice_index_or, ap, sym, ◌∙◌, append_assoc, rules}
use Rattle.std.specs.Fmt.{decimal}
use Rattle.job_report.proofs.plan.push_repetition.Goals as goal

pub returns : goal.returns
returns c =
    let old = string_bytes c.args.text.now in
    let name = slice_index_or c.args.names.now.actors c.args.actor [] in
    let rest = name ++ (44 ∷ (decimal c.args.count ++ 10 ∷ [])) in
    let first : string_bytes c.push_str.new.self ≡ old ++ codes "repetition," = c.in_ok-push_str.ensures.bytes in
    let second : string_bytes c.write.new.self ≡ string_bytes c.push_str.new.self ++ rest = search rules in
    second ∙ ap (λ t. t ++ rest) first ∙ append_assoc old (codes "repetition,") rest
    ∙ ap (λ t. old ++ (codes "repetition," ++ t)) (sym (append_assoc name (44 ∷ decimal c.args.count) (10 ∷ [])))
