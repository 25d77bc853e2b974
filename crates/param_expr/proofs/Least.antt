-- No text of a tree measures less than the tree.
use Rattle.std.proofs.Common.{◌≡◌, ℕ, ◌≤◌, List, [], ◌∷◌, ◌++◌, true, cond, eqb, refl, sym, ap, subst, ◌∙◌, arith}
use Rattle.std.proofs.lemmas.Bool.{and_parts}
use Rattle.std.proofs.lemmas.Bool.Decides.{nat_tests}
use Rattle.std.specs.Prelude.{nat_lt}
use Rattle.std.specs.List.{list_all}
use Rattle.param_expr.specs.Named as tree
use Rattle.param_expr.specs.Named.{NamedTree}
use Rattle.param_expr.specs.Tokens.{additive, multiplicative, right_paren, comma}
use Rattle.param_expr.specs.Grammar.{Sum, Term, Factor, one_term, sum_of, one_factor, product_of, literal, named, group, call, sum_tokens, term_tokens, factor_tokens, sum_tree, term_tree, factor_tree, Spells}
use Rattle.param_expr.specs.Print.{level_of, tightness}
use Rattle.param_expr.specs.declared.op.Op.{Op}
use Rattle.param_expr.specs.declared.op.Op.TheVariants.{Add, Sub, Mul, Div, Rem, Min, Max}
use Rattle.param_expr.proofs.Measures.{Measure, sum_measure, term_measure, factor_measure, placed, least, least_at}
use Rattle.param_expr.proofs.Sound.{sound, all_sound, all_parts}

-- ---- what is asked of an operand

placed_more : (m : Measure) (has n a b : ℕ) → a ≤ b → placed m a has n ≤ placed m b has n
placed_more m has n a b h = more (m.enclosed n) (m.enclosed_more n)
  where
    more : (e : ℕ) → n ≤ e → cond (nat_lt has a) e n ≤ cond (nat_lt has b) e n
    more e k = grind (arith, nat_tests)

placed_bare : (m : Measure) (has n : ℕ) → placed m 0 has n ≡ n
placed_bare m has n = bare (m.enclosed n)
  where
    bare : (e : ℕ) → cond (nat_lt has 0) e n ≡ n
    bare e = grind (arith, nat_tests)

placed_enclosed : (m : Measure) (has n : ℕ) → placed m 2 has n ≤ m.enclosed n
placed_enclosed m has n = most (m.enclosed n) (m.enclosed_more n)
  where
    most : (e : ℕ) → n ≤ e → cond (nat_lt has 2) e n ≤ e
    most e h = grind (arith, nat_tests)

least_more : (m : Measure) (t : NamedTree) (a b : ℕ) → a ≤ b → least_at m a t ≤ least_at m b t
least_more m t = placed_more m (tightness t) (least m t)

least_enclosed : (m : Measure) (t : NamedTree) → least_at m 2 t ≤ m.enclosed (least_at m 0 t)
least_enclosed m t = subst (λ n. least_at m 2 t ≤ m.enclosed n) (sym (placed_bare m (tightness t) (least m t))) (placed_enclosed m (tightness t) (least m t))

least_sum : (m : Measure) (op : Op) (a b : NamedTree) → eqb (level_of op) 0 ≡ true → least_at m 0 (tree.binary op a b) ≡ m.joined (least_at m 0 a) (least_at m 1 b)
least_sum m Add a b h = refl
least_sum m Sub a b h = refl
least_sum m Mul a b h = absurd cc
least_sum m Div a b h = absurd cc
least_sum m Rem a b h = absurd cc
least_sum m Min a b h = absurd cc
least_sum m Max a b h = absurd cc

least_term : (m : Measure) (op : Op) (a b : NamedTree) → eqb (level_of op) 1 ≡ true → least_at m 1 (tree.binary op a b) ≡ m.joined (least_at m 1 a) (least_at m 2 b)
least_term m Add a b h = absurd cc
least_term m Sub a b h = absurd cc
least_term m Mul a b h = refl
least_term m Div a b h = refl
least_term m Rem a b h = refl
least_term m Min a b h = absurd cc
least_term m Max a b h = absurd cc

least_call : (m : Measure) (op : Op) (a b : NamedTree) → eqb (level_of op) 2 ≡ true → least_at m 2 (tree.binary op a b) ≡ m.called (least_at m 0 a) (least_at m 0 b)
least_call m Add a b h = absurd cc
least_call m Sub a b h = absurd cc
least_call m Mul a b h = absurd cc
least_call m Div a b h = absurd cc
least_call m Rem a b h = absurd cc
least_call m Min a b h = refl
least_call m Max a b h = refl

-- ---- no sum measures less

chain : (a b c : ℕ) → a ≤ b → b ≤ c → a ≤ c
chain a b c h k = omega arith

below : {a b c : ℕ} → a ≡ b → b ≤ c → a ≤ c
below h k = omega arith

mutual
  pub sum_least : (m : Measure) (s : Sum) → list_all sound (sum_tokens s) ≡ true → least_at m 0 (sum_tree s) ≤ sum_measure m s
  sum_least m (one_term t) h = chain _ _ _ (least_more m (term_tree t) 0 1 (omega arith)) (term_least m t h)
  sum_least m (sum_of s op t) h =
      let p = all_parts sound (sum_tokens s) (additive op ∷ term_tokens t) h in
      let q = and_parts (eqb (level_of op) 0) (list_all sound (term_tokens t)) p.1 in
      below (least_sum m op (sum_tree s) (term_tree t) q.0) (m.joined_rises _ _ _ _ (sum_least m s p.0) (term_least m t q.1))

  term_least : (m : Measure) (t : Term) → list_all sound (term_tokens t) ≡ true → least_at m 1 (term_tree t) ≤ term_measure m t
  term_least m (one_factor f) h = chain _ _ _ (least_more m (factor_tree f) 1 2 (omega arith)) (factor_least m f h)
  term_least m (product_of t op f) h =
      let p = all_parts sound (term_tokens t) (multiplicative op ∷ factor_tokens f) h in
      let q = and_parts (eqb (level_of op) 1) (list_all sound (factor_tokens f)) p.1 in
      below (least_term m op (term_tree t) (factor_tree f) q.0) (m.joined_rises _ _ _ _ (term_least m t p.0) (factor_least m f q.1))

  factor_least : (m : Measure) (f : Factor) → list_all sound (factor_tokens f) ≡ true → least_at m 2 (factor_tree f) ≤ factor_measure m f
  factor_least m (literal n) h = omega arith
  factor_least m (named w) h = omega arith
  factor_least m (group s) h =
      let p = all_parts sound (sum_tokens s) (right_paren ∷ []) h in
      chain _ _ _ (least_enclosed m (sum_tree s)) (m.enclosed_rises _ _ (sum_least m s p.0))
  factor_least m (call op a b) h =
      let q = and_parts (eqb (level_of op) 2) (list_all sound (sum_tokens a ++ comma ∷ (sum_tokens b ++ right_paren ∷ []))) h in
      let p = all_parts sound (sum_tokens a) (comma ∷ (sum_tokens b ++ right_paren ∷ [])) q.1 in
      let r = all_parts sound (sum_tokens b) (right_paren ∷ []) p.1 in
      below (least_call m op (sum_tree a) (sum_tree b) q.0) (m.called_rises _ _ _ _ (sum_least m a p.0) (sum_least m b r.0))

-- no text of a tree measures less than the tree
pub spelled_least : (m : Measure) (text : List ℕ) (t : NamedTree) (h : Spells text t) → least_at m 0 t ≤ sum_measure m h.sum
spelled_least m text t h = below (ap (least_at m 0) (sym h.tree_is)) (sum_least m h.sum (ap (list_all sound) h.tokens_are ∙ all_sound text 0 0))
