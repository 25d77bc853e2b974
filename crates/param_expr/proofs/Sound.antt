-- The operators and names that the tokens of a text have.
use Rattle.std.proofs.Common.{◌≡◌, ℕ, ◌+◌, ◌-◌, zero, suc, List, [], ◌∷◌, ◌++◌, length, Bool, true, eqb, refl, sym, ◌∙◌}
use Rattle.std.proofs.lemmas.Bool.{and_from, and_parts, cond_both}
use Rattle.std.proofs.lemmas.List.Folds.{list_all-append}
use Rattle.std.specs.List.{list_all}
use Rattle.param_expr.specs.Words.{is_name}
use Rattle.param_expr.specs.Tokens.{Token, name, additive, multiplicative, function, Lexeme, front, front_at, tokens_from, plain_tokens}
use Rattle.param_expr.specs.Print.{level_of}
use Rattle.param_expr.proofs.Fronts.{word_has, mark_has, front_has}

-- an operator of its own level, or what can be a name
abbrev pub sound : Token → Bool
sound (additive op) = eqb (level_of op) 0
sound (multiplicative op) = eqb (level_of op) 1
sound (function op) = eqb (level_of op) 2
sound (name w) = is_name w
sound _ = true

sound_front : (c : ℕ) (rest : List ℕ) → sound (front (c ∷ rest)).token ≡ true
sound_front c rest =
    front_has (λ (l : Lexeme). sound l.token ≡ true) c rest
    (λ ds all. refl)
    (λ w. word_has (λ t. sound t ≡ true) w (λ e. refl) (λ e. refl) (λ e. e) refl)
    (λ b. mark_has (λ t. sound t ≡ true) b refl refl refl refl refl refl refl refl refl)

pub all_sound : (text : List ℕ) (at skip : ℕ) → list_all sound (plain_tokens (tokens_from at skip text)) ≡ true
unfolding tokens_from
all_sound [] at skip = refl
all_sound (c ∷ text) at (suc skip) = all_sound text (at + 1) skip
all_sound (c ∷ text) at zero =
    cond_both (eqb c 32) (tokens_from (at + 1) 0 text) (front_at at (c ∷ text) ∷ tokens_from (at + 1) (length (front (c ∷ text)).bytes - 1) text) (λ ps. list_all sound (plain_tokens ps) ≡ true)
    (λ e. all_sound text (at + 1) 0)
    (λ e. and_from _ _ (sound_front c text) (all_sound text (at + 1) (length (front (c ∷ text)).bytes - 1)))

-- ---- the parts of tokens that pass a test

pub all_parts : (p : Token → Bool) (a b : List Token) → list_all p (a ++ b) ≡ true → (list_all p a ≡ true) × (list_all p b ≡ true)
all_parts p a b h = and_parts (list_all p a) (list_all p b) (sym (list_all-append p a b) ∙ h)
