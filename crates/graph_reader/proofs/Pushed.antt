-- What is pushed list by list.
use Rattle.std.proofs.Common.{◌≡◌, List, [], ◌∷◌, ◌++◌, append_assoc, ap, ◌∙◌}

in_order : {X : Type 0} (start : List X) (x : X) (a b c d : List X) → ((((start ++ x ∷ []) ++ a) ++ b) ++ c) ++ d ≡ start ++ x ∷ (a ++ (b ++ (c ++ d)))
in_order [] x a b c d = ap (λ l. x ∷ l) (append_assoc (a ++ b) c d ∙ append_assoc a b (c ++ d))
in_order (y ∷ start) x a b c d = ap (λ l. y ∷ l) (in_order start x a b c d)

-- one element, then three lists, and a last one
pub one_then_four : {X : Type 0} (start : List X) (x : X) (a b c d s1 s2 s3 s4 : List X) → s1 ≡ start ++ x ∷ [] → s2 ≡ s1 ++ a → s3 ≡ s2 ++ b → s4 ≡ s3 ++ c → s4 ++ d ≡ start ++ x ∷ (a ++ (b ++ (c ++ d)))
one_then_four start x a b c d s1 s2 s3 s4 e1 e2 e3 e4 =
    ap (λ s. s ++ d) (e4 ∙ ap (λ s. s ++ c) (e3 ∙ ap (λ s. s ++ b) (e2 ∙ ap (λ s. s ++ a) e1))) ∙ in_order start x a b c d
