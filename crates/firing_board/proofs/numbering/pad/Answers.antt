use Rattle.std.proofs.Common.{◌≡◌, ℕ, zero, suc, List, [], ◌∷◌, ◌++◌, get_or, refl, ap, ◌∙◌}
use Rattle.firing_board.proofs.numbering.pad.Goals as goal

one_more : (numbers : List ℕ) (k : ℕ) → get_or (numbers ++ 0 ∷ []) k 0 ≡ get_or numbers k 0
one_more [] zero = refl
one_more [] (suc k) = refl
one_more (n ∷ numbers) zero = refl
one_more (n ∷ numbers) (suc k) = one_more numbers k

pub loop-numbers-preserved : goal.loop-numbers-preserved
loop-numbers-preserved c = λ k. ap (λ (xs : List ℕ). get_or xs k 0) c.in_ok-push.ensures.items ∙ (one_more c.loop-numbers.numbers.items k ∙ c.loop-numbers.invariant k)
