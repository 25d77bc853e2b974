-- What derivations are measured by, and the least that a tree can have.
use Rattle.std.proofs.Common.{ℕ, ◌≤◌, List, cond, pos, negsuc}
use Rattle.std.specs.Prelude.{nat_lt}
use Rattle.param_expr.specs.Named as tree
use Rattle.param_expr.specs.Named.{NamedTree}
use Rattle.param_expr.specs.Grammar.{Sum, Term, Factor, one_term, sum_of, one_factor, product_of, literal, named, group, call}
use Rattle.param_expr.specs.Print.{tightness}
use Rattle.param_expr.specs.declared.op.Op.{Op}
use Rattle.param_expr.specs.declared.op.Op.TheVariants.{Add, Sub, Mul, Div, Rem, Min, Max}

-- A measure of numbers, of names, of two operands with an operator between them, of a call of two operands, and of a
-- sum in parentheses. It rises with that of the operands, and parentheses don't lessen it.
pub record Measure : Type 0 where
  pub of_number : ℕ → ℕ
  pub of_name : List ℕ → ℕ
  pub joined : ℕ → ℕ → ℕ
  pub called : ℕ → ℕ → ℕ
  pub enclosed : ℕ → ℕ
  pub joined_rises : (a b c d : ℕ) → a ≤ c → b ≤ d → joined a b ≤ joined c d
  pub called_rises : (a b c d : ℕ) → a ≤ c → b ≤ d → called a b ≤ called c d
  pub enclosed_rises : (a b : ℕ) → a ≤ b → enclosed a ≤ enclosed b
  pub enclosed_more : (n : ℕ) → n ≤ enclosed n

abbrev mutual
  pub sum_measure : Measure → Sum → ℕ
  sum_measure m (one_term t) = term_measure m t
  sum_measure m (sum_of s op t) = m.joined (sum_measure m s) (term_measure m t)

  pub term_measure : Measure → Term → ℕ
  term_measure m (one_factor f) = factor_measure m f
  term_measure m (product_of t op f) = m.joined (term_measure m t) (factor_measure m f)

  pub factor_measure : Measure → Factor → ℕ
  factor_measure m (literal n) = m.of_number n
  factor_measure m (named w) = m.of_name w
  factor_measure m (group s) = m.enclosed (sum_measure m s)
  factor_measure m (call op a b) = m.called (sum_measure m a) (sum_measure m b)

-- an operand of measure n, in parentheses where it binds less tightly than its place asks
abbrev pub placed : Measure → ℕ → ℕ → ℕ → ℕ
placed m asked has n = cond (nat_lt has asked) (m.enclosed n) n

abbrev operation : Measure → Op → (ℕ → ℕ) → (ℕ → ℕ) → ℕ
operation m Add lhs rhs = m.joined (lhs 0) (rhs 1)
operation m Sub lhs rhs = m.joined (lhs 0) (rhs 1)
operation m Mul lhs rhs = m.joined (lhs 1) (rhs 2)
operation m Div lhs rhs = m.joined (lhs 1) (rhs 2)
operation m Rem lhs rhs = m.joined (lhs 1) (rhs 2)
operation m Min lhs rhs = m.called (lhs 0) (rhs 0)
operation m Max lhs rhs = m.called (lhs 0) (rhs 0)

-- the measure of a tree with parentheses only where operands ask for them
abbrev pub least : Measure → NamedTree → ℕ
least m (tree.number (pos n)) = m.of_number n
least m (tree.number (negsuc n)) = 0
least m (tree.name w) = m.of_name w
least m (tree.binary op a b) = operation m op (λ asked. placed m asked (tightness a) (least m a)) (λ asked. placed m asked (tightness b) (least m b))

abbrev pub least_at : Measure → ℕ → NamedTree → ℕ
least_at m asked t = placed m asked (tightness t) (least m t)
