-- No text of a tree has fewer parentheses than what is printed of it.
use Rattle.std.proofs.Common.{◌≡◌, ℕ, ◌+◌, ◌≤◌, List, [], ◌∷◌, ◌++◌, arith}
use Rattle.param_expr.specs.Named.{NamedTree}
use Rattle.param_expr.specs.Tokens.{Token, number, name, additive, multiplicative, function, left_paren, right_paren, comma, other}
use Rattle.param_expr.specs.Grammar.{Sum, Term, Factor, one_term, sum_of, one_factor, product_of, literal, named, group, call, sum_tokens, term_tokens, factor_tokens, Spells}
use Rattle.param_expr.specs.Print.{printed, opened_in, parentheses}
use Rattle.param_expr.proofs.Measures.{Measure, sum_measure, term_measure, factor_measure}
use Rattle.param_expr.proofs.Derived.{Writable}
use Rattle.param_expr.proofs.Written.{printed_least}

-- how many parentheses are opened
abbrev pairs : Measure
pairs = record {
  of_number = λ n. 0;
  of_name = λ w. 0;
  joined = λ a b. a + b;
  called = λ a b. 1 + (a + b);
  enclosed = λ a. 1 + a;
  joined_rises = λ a b c d h k. omega arith;
  called_rises = λ a b c d h k. omega arith;
  enclosed_rises = λ a b h. omega arith;
  enclosed_more = λ a. omega arith;
}

opened_in-append : (a b : List Token) → opened_in (a ++ b) ≡ opened_in a + opened_in b
opened_in-append [] b = omega arith
opened_in-append (number n ∷ a) b = opened_in-append a b
opened_in-append (name w ∷ a) b = opened_in-append a b
opened_in-append (additive op ∷ a) b = opened_in-append a b
opened_in-append (multiplicative op ∷ a) b = opened_in-append a b
opened_in-append (function op ∷ a) b = opened_in-append a b
opened_in-append (left_paren ∷ a) b = omega (arith, opened_in-append a b)
opened_in-append (right_paren ∷ a) b = opened_in-append a b
opened_in-append (comma ∷ a) b = opened_in-append a b
opened_in-append (other ∷ a) b = opened_in-append a b

mutual
  opened_sum : (s : Sum) → opened_in (sum_tokens s) ≡ sum_measure pairs s
  opened_sum (one_term t) = opened_term t
  opened_sum (sum_of s op t) = omega (arith, opened_in-append (sum_tokens s) (additive op ∷ term_tokens t), opened_sum s, opened_term t)

  opened_term : (t : Term) → opened_in (term_tokens t) ≡ term_measure pairs t
  opened_term (one_factor f) = opened_factor f
  opened_term (product_of t op f) = omega (arith, opened_in-append (term_tokens t) (multiplicative op ∷ factor_tokens f), opened_term t, opened_factor f)

  opened_factor : (f : Factor) → opened_in (factor_tokens f) ≡ factor_measure pairs f
  opened_factor (literal n) = omega arith
  opened_factor (named w) = omega arith
  opened_factor (group s) = omega (arith, opened_in-append (sum_tokens s) (right_paren ∷ []), opened_sum s)
  opened_factor (call op a b) = omega (arith, opened_in-append (sum_tokens a) (comma ∷ (sum_tokens b ++ right_paren ∷ [])), opened_in-append (sum_tokens b) (right_paren ∷ []), opened_sum a, opened_sum b)

pub printed_fewest : (t : NamedTree) → Writable t → (text : List ℕ) → Spells text t → parentheses (printed t) ≤ parentheses text
printed_fewest = printed_least pairs opened_in opened_sum
