use Rattle.std.proofs.Common.{◌≡◌, ◌*◌, ℤ, List, [], ◌∷◌, ◌++◌, ap, ◌∙◌, rules, FitsSigned, w64}
use Rattle.std.proofs.lemmas.Int.{to_z-of_z}
use Rattle.pisdf_program.specs.Soak.{k_token, tokens_from, x_token}
use Rattle.pisdf_program.proofs.soak_tokens.soak_part.Goals as goal

pub returns : goal.returns
returns c =
    let k : List ℤ = tokens_from (k_token c.args.number) c.args.iteration 1 in
    let fits : FitsSigned w64 c.k_token.result = search rules in
    let made = rw (to_z-of_z w64 c.k_token.result fits) at c.in_ok-k.ensures.items in
    let k_is : c.new.result ≡ k = c.new.ensures ∙ made ∙ ap (λ (t : ℤ). t ∷ []) c.k_token.ensures in
    let x_is : c.new-2.result ≡ tokens_from (x_token c.args.number) (64 * c.args.iteration) 64 = c.new-2.ensures ∙ c.in_ok-x.ensures in
    c.in_ok-push-2.ensures.items ∙ ap (λ (l : List (List ℤ)). l ++ c.new-2.result ∷ []) (c.in_ok-push.ensures.items ∙ ap (λ (l : List (List ℤ)). l ++ c.new.result ∷ []) c.in_ok-part.ensures.items)
    ∙ ap (λ (a : List ℤ). a ∷ c.new-2.result ∷ []) k_is ∙ ap (λ (b : List ℤ). k ∷ b ∷ []) x_is
