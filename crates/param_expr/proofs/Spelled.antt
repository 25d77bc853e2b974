-- What spells an expression is accepted as it, symbol by symbol.
use Rattle.std.proofs.Common.{◌≡◌, ℕ, List, [], ◌∷◌, ◌++◌, Option, Some, None, ℤ, pos, refl, sym, ap, ◌∙◌, append_assoc}
use Rattle.std.proofs.lemmas.List.{append-nil}
use Rattle.std.specs.Prelude.{option_and_then, unwrap_or}
use Rattle.param_expr.specs.Named as tree
use Rattle.param_expr.specs.Named.{NamedTree}
use Rattle.param_expr.specs.Tokens.{Token, number, name, additive, multiplicative, function, left_paren, right_paren, comma, other}
use Rattle.param_expr.specs.Grammar.{Sum, Term, Factor, one_term, sum_of, one_factor, product_of, literal, named, group, call, sum_tokens, term_tokens, factor_tokens, sum_tree, term_tree, factor_tree}
use Rattle.param_expr.specs.Machine.{joined, nothing, start, step, end_of}
use Rattle.param_expr.specs.declared.symbol.Symbol.{Symbol}
use Rattle.param_expr.specs.declared.symbol.Symbol.TheVariants.{Number, Word, Additive, Multiplicative, Function, Open, Close, Comma, Other}
use Rattle.param_expr.specs.declared.op.Op.{Op}
use Rattle.param_expr.specs.declared.state.Lhs.{Lhs}
use Rattle.param_expr.specs.declared.state.Waiting.{Waiting}
use Rattle.param_expr.specs.declared.state.Opened.TheVariants.{Group, First, Second}
use Rattle.param_expr.specs.declared.state.Outer.{Outer}
use Rattle.param_expr.specs.declared.state.State.{State}
use Rattle.param_expr.specs.declared.state.State.TheVariants.{Want, Have}

-- ---- symbols and trees, where each number is seen as `value` says

abbrev pub symbol_by : (ℕ → Option ℤ) → Token → Symbol
symbol_by value (number n) = Number (value n)
symbol_by value (name w) = Word w
symbol_by value (additive op) = Additive op
symbol_by value (multiplicative op) = Multiplicative op
symbol_by value (function op) = Function op
symbol_by value left_paren = Open
symbol_by value right_paren = Close
symbol_by value comma = Comma
symbol_by value other = Other

abbrev mutual
  pub sum_by : (ℕ → Option ℤ) → Sum → NamedTree
  sum_by value (one_term t) = term_by value t
  sum_by value (sum_of s op t) = tree.binary op (sum_by value s) (term_by value t)

  pub term_by : (ℕ → Option ℤ) → Term → NamedTree
  term_by value (one_factor f) = factor_by value f
  term_by value (product_of t op f) = tree.binary op (term_by value t) (factor_by value f)

  pub factor_by : (ℕ → Option ℤ) → Factor → NamedTree
  factor_by value (literal n) = tree.number (unwrap_or (value n) (pos 0))
  factor_by value (named w) = tree.name w
  factor_by value (group s) = sum_by value s
  factor_by value (call op a b) = tree.binary op (sum_by value a) (sum_by value b)

-- what the tokens are accepted as
abbrev pub accepts : (ℕ → Option ℤ) → State → List Token → Option NamedTree
accepts value state [] = end_of state
accepts value state (t ∷ ts) = option_and_then (λ after. accepts value after ts) (step state (symbol_by value t))

-- ---- the left side that a sum or a term leaves to wait, and its last operand

abbrev sum_lhs : (ℕ → Option ℤ) → Sum → Option Lhs
sum_lhs value (one_term t) = None
sum_lhs value (sum_of s op t) = Some (record { operand = sum_by value s; op = op })

abbrev sum_last : Sum → Term
sum_last (one_term t) = t
sum_last (sum_of s op t) = t

abbrev term_lhs : (ℕ → Option ℤ) → Term → Option Lhs
term_lhs value (one_factor f) = None
term_lhs value (product_of t op f) = Some (record { operand = term_by value t; op = op })

abbrev term_last : Term → Factor
term_last (one_factor f) = f
term_last (product_of t op f) = f

abbrev after_term : (ℕ → Option ℤ) → Option Lhs → Term → List Outer → State
after_term value lhs t rest = Have (record { sum = lhs; term = term_lhs value t }) (factor_by value (term_last t)) rest

abbrev after_sum : (ℕ → Option ℤ) → Sum → List Outer → State
after_sum value s rest = after_term value (sum_lhs value s) (sum_last s) rest

term_is : (value : ℕ → Option ℤ) (t : Term) → joined (term_lhs value t) (factor_by value (term_last t)) ≡ term_by value t
term_is value (one_factor f) = refl
term_is value (product_of t op f) = refl

sum_is : (value : ℕ → Option ℤ) (s : Sum) → joined (sum_lhs value s) (term_by value (sum_last s)) ≡ sum_by value s
sum_is value (one_term t) = refl
sum_is value (sum_of s op t) = refl

whole_sum : (value : ℕ → Option ℤ) (s : Sum) → joined (sum_lhs value s) (joined (term_lhs value (sum_last s)) (factor_by value (term_last (sum_last s)))) ≡ sum_by value s
whole_sum value s = ap (joined (sum_lhs value s)) (term_is value (sum_last s)) ∙ sum_is value s

abbrev inside_first : Op → Waiting → List Outer → List Outer
inside_first op waiting rest = record { waiting = waiting; opened = First op } ∷ rest

abbrev inside_second : Op → NamedTree → Waiting → List Outer → List Outer
inside_second op first waiting rest = record { waiting = waiting; opened = Second op first } ∷ rest

abbrev inside_group : Waiting → List Outer → List Outer
inside_group waiting rest = record { waiting = waiting; opened = Group } ∷ rest

mutual
  sum_runs : (value : ℕ → Option ℤ) (s : Sum) (rest : List Outer) (more : List Token) → accepts value (Want nothing rest) (sum_tokens s ++ more) ≡ accepts value (after_sum value s rest) more
  sum_runs value (one_term t) rest more = term_runs value t None rest more
  sum_runs value (sum_of s op t) rest more =
      ap (accepts value (Want nothing rest)) (append_assoc (sum_tokens s) (additive op ∷ term_tokens t) more)
      ∙ sum_runs value s rest (additive op ∷ (term_tokens t ++ more))
      ∙ ap (λ lhs. accepts value (Want (record { sum = Some (record { operand = lhs; op = op }); term = None }) rest) (term_tokens t ++ more)) (whole_sum value s)
      ∙ term_runs value t (Some (record { operand = sum_by value s; op = op })) rest more

  term_runs : (value : ℕ → Option ℤ) (t : Term) (lhs : Option Lhs) (rest : List Outer) (more : List Token) → accepts value (Want (record { sum = lhs; term = None }) rest) (term_tokens t ++ more) ≡ accepts value (after_term value lhs t rest) more
  term_runs value (one_factor f) lhs rest more = factor_runs value f (record { sum = lhs; term = None }) rest more
  term_runs value (product_of t op f) lhs rest more =
      ap (accepts value (Want (record { sum = lhs; term = None }) rest)) (append_assoc (term_tokens t) (multiplicative op ∷ factor_tokens f) more)
      ∙ term_runs value t lhs rest (multiplicative op ∷ (factor_tokens f ++ more))
      ∙ ap (λ l. accepts value (Want (record { sum = lhs; term = Some (record { operand = l; op = op }) }) rest) (factor_tokens f ++ more)) (term_is value t)
      ∙ factor_runs value f (record { sum = lhs; term = Some (record { operand = term_by value t; op = op }) }) rest more

  factor_runs : (value : ℕ → Option ℤ) (f : Factor) (waiting : Waiting) (rest : List Outer) (more : List Token) → accepts value (Want waiting rest) (factor_tokens f ++ more) ≡ accepts value (Have waiting (factor_by value f) rest) more
  factor_runs value (literal n) waiting rest more = refl
  factor_runs value (named w) waiting rest more = refl
  factor_runs value (group s) waiting rest more =
      ap (accepts value (Want nothing (inside_group waiting rest))) (append_assoc (sum_tokens s) (right_paren ∷ []) more)
      ∙ sum_runs value s (inside_group waiting rest) (right_paren ∷ more)
      ∙ ap (λ t. accepts value (Have waiting t rest) more) (whole_sum value s)
  factor_runs value (call op a b) waiting rest more =
      ap (accepts value (Want nothing (inside_first op waiting rest))) (append_assoc (sum_tokens a) (comma ∷ (sum_tokens b ++ right_paren ∷ [])) more)
      ∙ sum_runs value a (inside_first op waiting rest) (comma ∷ ((sum_tokens b ++ right_paren ∷ []) ++ more))
      ∙ ap (λ t. accepts value (Want nothing (inside_second op t waiting rest)) ((sum_tokens b ++ right_paren ∷ []) ++ more)) (whole_sum value a)
      ∙ ap (accepts value (Want nothing (inside_second op (sum_by value a) waiting rest))) (append_assoc (sum_tokens b) (right_paren ∷ []) more)
      ∙ sum_runs value b (inside_second op (sum_by value a) waiting rest) (right_paren ∷ more)
      ∙ ap (λ t. accepts value (Have waiting (tree.binary op (sum_by value a) t) rest) more) (whole_sum value b)

-- a sum is accepted as its tree
pub sum_accepted : (value : ℕ → Option ℤ) (s : Sum) → accepts value start (sum_tokens s) ≡ Some (sum_by value s)
sum_accepted value s =
    ap (accepts value start) (sym (append-nil (sum_tokens s)))
    ∙ sum_runs value s [] []
    ∙ ap (λ t. Some t) (whole_sum value s)

-- ---- each number as it is

abbrev pub exactly : ℕ → Option ℤ
exactly n = Some (pos n)

mutual
  pub sum_exact : (s : Sum) → sum_by exactly s ≡ sum_tree s
  sum_exact (one_term t) = term_exact t
  sum_exact (sum_of s op t) = ap (λ a. tree.binary op a (term_by exactly t)) (sum_exact s) ∙ ap (tree.binary op (sum_tree s)) (term_exact t)

  term_exact : (t : Term) → term_by exactly t ≡ term_tree t
  term_exact (one_factor f) = factor_exact f
  term_exact (product_of t op f) = ap (λ a. tree.binary op a (factor_by exactly f)) (term_exact t) ∙ ap (tree.binary op (term_tree t)) (factor_exact f)

  factor_exact : (f : Factor) → factor_by exactly f ≡ factor_tree f
  factor_exact (literal n) = refl
  factor_exact (named w) = refl
  factor_exact (group s) = sum_exact s
  factor_exact (call op a b) = ap (λ t. tree.binary op t (sum_by exactly b)) (sum_exact a) ∙ ap (tree.binary op (sum_tree a)) (sum_exact b)

pub exact_accepted : (s : Sum) → accepts exactly start (sum_tokens s) ≡ Some (sum_tree s)
exact_accepted s = sum_accepted exactly s ∙ ap (λ t. Some t) (sum_exact s)

some_same : {A : Type 0} (a b : A) → Some a ≡ Some b → a ≡ b
some_same a b e = cc

-- tokens are one tree at most
pub one_tree : (s t : Sum) → sum_tokens s ≡ sum_tokens t → sum_tree s ≡ sum_tree t
one_tree s t e = some_same (sum_tree s) (sum_tree t) (sym (exact_accepted s) ∙ ap (accepts exactly start) e ∙ exact_accepted t)
