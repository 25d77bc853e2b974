-- No text of a tree has fewer parentheses open at once than what is printed of it.
use Rattle.std.proofs.Common.{◌≡◌, ℕ, ◌+◌, ◌-◌, ◌≤◌, max, List, [], ◌∷◌, ◌++◌, refl, sym, ap, ◌∙◌, append_assoc, arith}
use Rattle.std.proofs.lemmas.List.{append-nil}
use Rattle.param_expr.specs.Named.{NamedTree}
use Rattle.param_expr.specs.Tokens.{Token, additive, multiplicative, right_paren, comma, Placed, tokens_of, plain_tokens}
use Rattle.param_expr.specs.Grammar.{Sum, Term, Factor, one_term, sum_of, one_factor, product_of, literal, named, group, call, sum_tokens, term_tokens, factor_tokens, Spells}
use Rattle.param_expr.specs.Parse.{open_after, most_open}
use Rattle.param_expr.specs.Print.{printed}
use Rattle.param_expr.proofs.Measures.{Measure, sum_measure, term_measure, factor_measure}
use Rattle.param_expr.proofs.Derived.{Writable}
use Rattle.param_expr.proofs.Written.{printed_least}

-- the most parentheses open at once
abbrev depth : Measure
depth = record {
  of_number = λ n. 0;
  of_name = λ w. 0;
  joined = λ a b. max a b;
  called = λ a b. 1 + max a b;
  enclosed = λ a. 1 + a;
  joined_rises = λ a b c d h k. omega arith;
  called_rises = λ a b c d h k. omega arith;
  enclosed_rises = λ a b h. omega arith;
  enclosed_more = λ a. omega arith;
}

-- most_open, of tokens without their places
abbrev most : ℕ → List Token → ℕ
most open_now [] = open_now
most open_now (t ∷ rest) = max open_now (most (open_after open_now t) rest)

most_plain : (placed : List Placed) (n : ℕ) → most_open n placed ≡ most n (plain_tokens placed)
most_plain [] n = refl
most_plain (p ∷ rest) n = ap (max n) (most_plain rest (open_after n p.token))

most_ge : (tokens : List Token) (n : ℕ) → n ≤ most n tokens
most_ge [] n = omega arith
most_ge (t ∷ rest) n = omega arith

closed : (n : ℕ) (rest : List Token) → most (n + 1 - 1) rest ≡ most n rest
closed n rest = ap (λ k. most k rest) (omega arith)

-- a sum ends with as many open as it began with
mutual
  most_sum : (s : Sum) (rest : List Token) (n : ℕ) → most n (sum_tokens s ++ rest) ≡ max (n + sum_measure depth s) (most n rest)
  most_sum (one_term t) rest n = most_term t rest n
  most_sum (sum_of s op t) rest n =
      ap (most n) (append_assoc (sum_tokens s) (additive op ∷ term_tokens t) rest)
      ∙ omega (arith, most_sum s (additive op ∷ (term_tokens t ++ rest)) n, most_term t rest n, most_ge rest n)

  most_term : (t : Term) (rest : List Token) (n : ℕ) → most n (term_tokens t ++ rest) ≡ max (n + term_measure depth t) (most n rest)
  most_term (one_factor f) rest n = most_factor f rest n
  most_term (product_of t op f) rest n =
      ap (most n) (append_assoc (term_tokens t) (multiplicative op ∷ factor_tokens f) rest)
      ∙ omega (arith, most_term t (multiplicative op ∷ (factor_tokens f ++ rest)) n, most_factor f rest n, most_ge rest n)

  most_factor : (f : Factor) (rest : List Token) (n : ℕ) → most n (factor_tokens f ++ rest) ≡ max (n + factor_measure depth f) (most n rest)
  most_factor (literal k) rest n = omega (arith, most_ge rest n)
  most_factor (named w) rest n = omega (arith, most_ge rest n)
  most_factor (group s) rest n =
      ap (λ ts. max n (most (n + 1) ts)) (append_assoc (sum_tokens s) (right_paren ∷ []) rest)
      ∙ omega (arith, most_sum s (right_paren ∷ rest) (n + 1), closed n rest, most_ge rest n)
  most_factor (call op a b) rest n =
      ap (λ ts. max n (max n (most (n + 1) ts))) (append_assoc (sum_tokens a) (comma ∷ (sum_tokens b ++ right_paren ∷ [])) rest ∙ ap (λ ts. sum_tokens a ++ comma ∷ ts) (append_assoc (sum_tokens b) (right_paren ∷ []) rest))
      ∙ omega (arith, most_sum a (comma ∷ (sum_tokens b ++ right_paren ∷ rest)) (n + 1), most_sum b (right_paren ∷ rest) (n + 1), closed n rest, most_ge rest n)

most_whole : (s : Sum) → most 0 (sum_tokens s) ≡ sum_measure depth s
most_whole s = ap (most 0) (sym (append-nil (sum_tokens s))) ∙ omega (arith, most_sum s [] 0)

pub printed_flattest : (t : NamedTree) → Writable t → (text : List ℕ) → Spells text t → most_open 0 (tokens_of (printed t)) ≤ most_open 0 (tokens_of text)
printed_flattest t h text k = omega (arith, most_plain (tokens_of (printed t)) 0, most_plain (tokens_of text) 0, printed_least depth (most 0) most_whole t h text k)
