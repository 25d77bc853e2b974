-- The grammar of expressions: sums of terms of factors.
use Rattle.std.specs.Prelude.{◌≡◌, ℕ, pos, List, [], ◌∷◌, ◌++◌}
use Rattle.param_expr.specs.Named as tree
use Rattle.param_expr.specs.Named.{NamedTree}
use Rattle.param_expr.specs.Tokens.{Token, number, name, additive, multiplicative, function, left_paren, right_paren, comma, tokens_of, plain_tokens}
use Rattle.param_expr.specs.declared.op.Op.{Op}

mutual
  -- sum = term { ( "+" | "-" ) term }
  pub data Sum : Type 0 where
    one_term : Term → Sum
    sum_of : Sum → Op → Term → Sum

  -- term = factor { ( "*" | "/" | "%" ) factor }
  pub data Term : Type 0 where
    one_factor : Factor → Term
    product_of : Term → Op → Factor → Term

  -- factor = number | name | "(" sum ")" | ( "min" | "max" ) "(" sum "," sum ")"
  pub data Factor : Type 0 where
    literal : ℕ → Factor
    named : List ℕ → Factor
    group : Sum → Factor
    call : Op → Sum → Sum → Factor

abbrev mutual
  pub sum_tokens : Sum → List Token
  sum_tokens (one_term t) = term_tokens t
  sum_tokens (sum_of s op t) = sum_tokens s ++ additive op ∷ term_tokens t

  pub term_tokens : Term → List Token
  term_tokens (one_factor f) = factor_tokens f
  term_tokens (product_of t op f) = term_tokens t ++ multiplicative op ∷ factor_tokens f

  pub factor_tokens : Factor → List Token
  factor_tokens (literal n) = number n ∷ []
  factor_tokens (named w) = name w ∷ []
  factor_tokens (group s) = left_paren ∷ (sum_tokens s ++ right_paren ∷ [])
  factor_tokens (call op a b) = function op ∷ left_paren ∷ (sum_tokens a ++ comma ∷ (sum_tokens b ++ right_paren ∷ []))

abbrev mutual
  pub sum_tree : Sum → NamedTree
  sum_tree (one_term t) = term_tree t
  sum_tree (sum_of s op t) = tree.binary op (sum_tree s) (term_tree t)

  pub term_tree : Term → NamedTree
  term_tree (one_factor f) = factor_tree f
  term_tree (product_of t op f) = tree.binary op (term_tree t) (factor_tree f)

  pub factor_tree : Factor → NamedTree
  factor_tree (literal n) = tree.number (pos n)
  factor_tree (named w) = tree.name w
  factor_tree (group s) = sum_tree s
  factor_tree (call op a b) = tree.binary op (sum_tree a) (sum_tree b)

-- the tokens are a sum, and the sum is the tree
pub record TokensSpell (tokens : List Token) (expr : NamedTree) : Type 0 where
  pub sum : Sum
  pub tokens_are : sum_tokens sum ≡ tokens
  pub tree_is : sum_tree sum ≡ expr

-- the text is the tree, written
abbrev pub Spells : List ℕ → NamedTree → Type 0
Spells text expr = TokensSpell (plain_tokens (tokens_of text)) expr
