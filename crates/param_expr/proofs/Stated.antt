-- What a text states: its numbers and names.
use Rattle.std.proofs.Common.{◌≡◌, ℕ, ◌-◌, List, [], ◌∷◌, ◌++◌, Bool, true, false, cond, eqb, refl, ap, subst, ◌∙◌, arith, ◌<◌, ◌^◌, not, Option, Some, None}
use Rattle.std.proofs.lemmas.Bool.{and_parts, and_from}
use Rattle.std.proofs.lemmas.Bool.Decides.{nat_tests}
use Rattle.std.specs.Prelude.{nat_lt, IfOk, Result, Ok, Err}
use Rattle.std.specs.List.{list_all}
use Rattle.param_expr.specs.Named.{NamedTree}
use Rattle.param_expr.specs.Words.{is_name}
use Rattle.param_expr.specs.Tokens.{Token, number, additive, multiplicative, right_paren, comma, Placed, plain_tokens, tokens_of}
use Rattle.param_expr.specs.Grammar.{Sum, Term, Factor, one_term, sum_of, one_factor, product_of, literal, named, group, call, sum_tokens, term_tokens, factor_tokens, sum_tree, term_tree, factor_tree, Spells}
use Rattle.param_expr.specs.Parse.{IsStated, Answers, UnlessMemory, is_large, first_large}
use Rattle.param_expr.specs.declared.fault.ExprFault.{ExprFault}
use Rattle.param_expr.specs.Print.{level_of}
use Rattle.param_expr.proofs.Sound.{sound, all_sound, all_parts}
use Rattle.param_expr.proofs.Derived.{Writable}

mutual
  pub sum_stated : (s : Sum) → list_all sound (sum_tokens s) ≡ true → IsStated (sum_tree s)
  sum_stated (one_term t) h = term_stated t h
  sum_stated (sum_of s op t) h =
      let p = all_parts sound (sum_tokens s) (additive op ∷ term_tokens t) h in
      let q = and_parts (eqb (level_of op) 0) (list_all sound (term_tokens t)) p.1 in
      (sum_stated s p.0, term_stated t q.1)

  term_stated : (t : Term) → list_all sound (term_tokens t) ≡ true → IsStated (term_tree t)
  term_stated (one_factor f) h = factor_stated f h
  term_stated (product_of t op f) h =
      let p = all_parts sound (term_tokens t) (multiplicative op ∷ factor_tokens f) h in
      let q = and_parts (eqb (level_of op) 1) (list_all sound (factor_tokens f)) p.1 in
      (term_stated t p.0, factor_stated f q.1)

  factor_stated : (f : Factor) → list_all sound (factor_tokens f) ≡ true → IsStated (factor_tree f)
  factor_stated (literal n) h = tt
  factor_stated (named w) h = (and_parts (is_name w) true h).0
  factor_stated (group s) h = sum_stated s (all_parts sound (sum_tokens s) (right_paren ∷ []) h).0
  factor_stated (call op a b) h =
      let q = and_parts (eqb (level_of op) 2) (list_all sound (sum_tokens a ++ comma ∷ (sum_tokens b ++ right_paren ∷ []))) h in
      let p = all_parts sound (sum_tokens a) (comma ∷ (sum_tokens b ++ right_paren ∷ [])) q.1 in
      (sum_stated a p.0, sum_stated b (all_parts sound (sum_tokens b) (right_paren ∷ []) p.1).0)

-- a tree that a text spells has names alone, and no number below 0
pub spelled_stated : (text : List ℕ) (t : NamedTree) → Spells text t → IsStated t
spelled_stated text t h = subst IsStated h.tree_is (sum_stated h.sum (ap (list_all sound) h.tokens_are ∙ all_sound text 0 0))

pub answer_stated : (text : List ℕ) (r : Result NamedTree ExprFault) → UnlessMemory (Answers text) r → IfOk r IsStated
answer_stated text (Ok t) h = spelled_stated text t h.1
answer_stated text (Err e) h = tt

-- ---- numbers within i64

abbrev is_small : Token → Bool
is_small t = not (is_large t)

cond_none : (b : Bool) (x : ℕ) (o : Option ℕ) → cond b (Some x) o ≡ None → (not b ≡ true) × (o ≡ None)
cond_none true x o h = absurd cc
cond_none false x o h = (refl, h)

all_small : (placed : List Placed) → first_large placed ≡ None → list_all is_small (plain_tokens placed) ≡ true
all_small [] h = refl
all_small (p ∷ rest) h =
    let parts = cond_none (is_large p.token) p.at (first_large rest) h in
    and_from _ _ parts.0 (all_small rest parts.1)

small_number : (n : ℕ) → not (nat_lt (2 ^ 63 - 1) n) ≡ true → n < 2 ^ 63
small_number n h = grind (arith, nat_tests)

mutual
  sum_writable : (s : Sum) → list_all is_small (sum_tokens s) ≡ true → IsStated (sum_tree s) → Writable (sum_tree s)
  sum_writable (one_term t) h k = term_writable t h k
  sum_writable (sum_of s op t) h k =
      let p = all_parts is_small (sum_tokens s) (additive op ∷ term_tokens t) h in
      (sum_writable s p.0 k.0, term_writable t p.1 k.1)

  term_writable : (t : Term) → list_all is_small (term_tokens t) ≡ true → IsStated (term_tree t) → Writable (term_tree t)
  term_writable (one_factor f) h k = factor_writable f h k
  term_writable (product_of t op f) h k =
      let p = all_parts is_small (term_tokens t) (multiplicative op ∷ factor_tokens f) h in
      (term_writable t p.0 k.0, factor_writable f p.1 k.1)

  factor_writable : (f : Factor) → list_all is_small (factor_tokens f) ≡ true → IsStated (factor_tree f) → Writable (factor_tree f)
  factor_writable (literal n) h k = small_number n (and_parts (is_small (number n)) true h).0
  factor_writable (named w) h k = k
  factor_writable (group s) h k = sum_writable s (all_parts is_small (sum_tokens s) (right_paren ∷ []) h).0 k
  factor_writable (call op a b) h k =
      let p = all_parts is_small (sum_tokens a) (comma ∷ (sum_tokens b ++ right_paren ∷ [])) h in
      (sum_writable a p.0 k.0, sum_writable b (all_parts is_small (sum_tokens b) (right_paren ∷ []) p.1).0 k.1)

-- a tree that a text spells with no number over i64 can be written
pub spelled_writable : (text : List ℕ) (t : NamedTree) → Spells text t → first_large (tokens_of text) ≡ None → Writable t
spelled_writable text t h small =
    subst (λ x. IsStated x → Writable x) h.tree_is (sum_writable h.sum (ap (list_all is_small) h.tokens_are ∙ all_small (tokens_of text) small)) (spelled_stated text t h)
