-- What holds of each kind of token holds of the one at the front of a text.
use Rattle.std.proofs.Common.{◌≡◌, ℕ, List, ◌∷◌, true, eqb}
use Rattle.std.proofs.lemmas.Bool.{cond_both}
use Rattle.std.proofs.lemmas.Slice.Eq.{bytes_eq-Decides}
use Rattle.std.specs.Prelude.{take_while, codes}
use Rattle.std.specs.List.{list_all}
use Rattle.std.specs.Str.{bytes_eq}
use Rattle.param_expr.specs.Words.{is_digit, is_letter, is_word_byte, is_name}
use Rattle.param_expr.specs.Tokens.{Token, name, additive, multiplicative, function, left_paren, right_paren, comma, other, word_token, mark_of, Lexeme, front}
use Rattle.param_expr.specs.declared.op.Op.TheVariants.{Add, Sub, Mul, Div, Rem, Min, Max}
use Rattle.param_expr.proofs.Lexed.{digits_lexeme, word_lexeme, mark_lexeme}
use Rattle.param_expr.proofs.Numerals.{run_passes}

pub word_has : (P : Token → Type 0) (w : List ℕ) → (w ≡ codes "min" → P (function Min)) → (w ≡ codes "max" → P (function Max)) → (is_name w ≡ true → P (name w)) → P other → P (word_token w)
word_has P w smaller larger named none =
    cond_both (bytes_eq w (codes "min")) (function Min) _ P (λ e. smaller ((bytes_eq-Decides w (codes "min")).0 e)) (λ e.
    cond_both (bytes_eq w (codes "max")) (function Max) _ P (λ e. larger ((bytes_eq-Decides w (codes "max")).0 e)) (λ e.
    cond_both (is_name w) (name w) other P named (λ e. none)))

pub mark_has : (P : Token → Type 0) (b : ℕ) → P (additive Add) → P (additive Sub) → P (multiplicative Mul) → P (multiplicative Div) → P (multiplicative Rem) → P left_paren → P right_paren → P comma → P other → P (mark_of b)
mark_has P b plus minus times over rest opens closes between none =
    cond_both (eqb b 43) (additive Add) _ P (λ e. plus) (λ e.
    cond_both (eqb b 45) (additive Sub) _ P (λ e. minus) (λ e.
    cond_both (eqb b 42) (multiplicative Mul) _ P (λ e. times) (λ e.
    cond_both (eqb b 47) (multiplicative Div) _ P (λ e. over) (λ e.
    cond_both (eqb b 37) (multiplicative Rem) _ P (λ e. rest) (λ e.
    cond_both (eqb b 40) left_paren _ P (λ e. opens) (λ e.
    cond_both (eqb b 41) right_paren _ P (λ e. closes) (λ e.
    cond_both (eqb b 44) comma other P (λ e. between) (λ e. none))))))))

pub front_has : (P : Lexeme → Type 0) (c : ℕ) (rest : List ℕ) → ((ds : List ℕ) → list_all is_digit ds ≡ true → P (digits_lexeme ds)) → ((w : List ℕ) → P (word_lexeme w)) → ((b : ℕ) → P (mark_lexeme b)) → P (front (c ∷ rest))
front_has P c rest digits word mark =
    cond_both (is_digit c) (digits_lexeme (take_while is_digit (c ∷ rest))) _ P (λ e. digits (take_while is_digit (c ∷ rest)) (run_passes is_digit (c ∷ rest))) (λ e.
    cond_both (is_letter c) (word_lexeme (take_while is_word_byte (c ∷ rest))) (mark_lexeme c) P (λ e. word (take_while is_word_byte (c ∷ rest))) (λ e. mark c))
