use Rattle.std.proofs.Common.{◌≡◌, ℕ, ◌+◌, ◌-◌, ℤ, List, [], ◌∷◌, ◌++◌, ap, sym, ◌∙◌, arith, rules, FitsSigned, w64}
use Rattle.std.proofs.lemmas.List.FromFn.{map-range_with_len_more}
use Rattle.std.proofs.lemmas.Int.{to_z-of_z}
use Rattle.pisdf_program.specs.Soak.{tokens_from, x_token}
use Rattle.pisdf_program.proofs.soak_tokens.x_tokens.Goals as goal

pub loop-place-preserved : goal.loop-place-preserved
loop-place-preserved c =
    let token : ℕ → ℤ = x_token c.args.number in
    let start = c.args.start in
    let place = c.loop-place.place in
    let n : ℕ = place - start in
    let e : start + n ≡ place = omega arith in
    let m : place + 1 - start ≡ n + 1 = omega arith in
    let fits : FitsSigned w64 c.x_token.result = search rules in
    let pushed = rw (to_z-of_z w64 c.x_token.result fits) at c.in_ok-push.ensures.items in
    pushed ∙ ap (λ (l : List ℤ). l ++ c.x_token.result ∷ []) c.loop-place.invariant ∙ ap (λ (t : ℤ). tokens_from token start n ++ t ∷ []) c.x_token.ensures
    ∙ sym (map-range_with_len_more token start n place e) ∙ ap (tokens_from token start) (sym m)
