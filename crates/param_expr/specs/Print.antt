-- The text of an expression with the fewest parentheses.
use Rattle.std.specs.Prelude.{◌≡◌, ℕ, ◌+◌, ◌<◌, Ok, ◌==◌, nat_lt, Bool, true, false, not, ◌||◌, pos, negsuc, List, [], ◌∷◌, ◌++◌, length, slice_index_or, codes, if◌then◌else◌}
use Rattle.std.specs.Fmt.{signed_decimal}
use Rattle.std.specs.List.{list_all}
use Rattle.param_expr.specs.Bind.{Binds}
use Rattle.param_expr.specs.Parse.{Answers}
use Rattle.param_expr.specs.Tree as tree
use Rattle.param_expr.specs.Tree.{Tree}
use Rattle.param_expr.specs.Named.{NamedTree, number, name, binary}
use Rattle.param_expr.specs.Tokens as token
use Rattle.param_expr.specs.Tokens.{Token, Placed, tokens_of, plain_tokens}
use Rattle.param_expr.specs.declared.op.Op.{Op}
use Rattle.param_expr.specs.declared.op.Op.TheVariants.{Add, Sub, Mul, Div, Rem, Min, Max}

-- each parameter is the name at its place
abbrev pub with_names : List (List ℕ) → Tree → NamedTree
with_names names (tree.number z) = number z
with_names names (tree.param i) = name (slice_index_or names i [])
with_names names (tree.binary op a b) = binary op (with_names names a) (with_names names b)

-- each number is at least 0
abbrev pub NonNegative : Tree → Type 0
NonNegative (tree.number (pos n)) = Unit {0}
NonNegative (tree.number (negsuc n)) = ⊥
NonNegative (tree.param i) = Unit {0}
NonNegative (tree.binary op a b) = NonNegative a × NonNegative b

-- no name stands at two places
abbrev pub Differ : List (List ℕ) → Type 0
Differ names = (i j : ℕ) → i < length names → j < length names → slice_index_or names i [] ≡ slice_index_or names j [] → i ≡ j

-- how tightly an operator binds: sums 0, products 1, calls 2
abbrev pub level_of : Op → ℕ
level_of Add = 0
level_of Sub = 0
level_of Mul = 1
level_of Div = 1
level_of Rem = 1
level_of Min = 2
level_of Max = 2

abbrev pub tightness : NamedTree → ℕ
tightness (number z) = 2
tightness (name w) = 2
tightness (binary op a b) = level_of op

-- an operand stands in parentheses where it binds less tightly than its place asks
abbrev pub operand_text : ℕ → ℕ → List ℕ → List ℕ
operand_text asked has text = if nat_lt has asked then codes "(" ++ (text ++ codes ")") else text

abbrev pub operation_text : Op → (ℕ → List ℕ) → (ℕ → List ℕ) → List ℕ
operation_text Add lhs rhs = lhs 0 ++ (codes "+" ++ rhs 1)
operation_text Sub lhs rhs = lhs 0 ++ (codes "-" ++ rhs 1)
operation_text Mul lhs rhs = lhs 1 ++ (codes "*" ++ rhs 2)
operation_text Div lhs rhs = lhs 1 ++ (codes "/" ++ rhs 2)
operation_text Rem lhs rhs = lhs 1 ++ (codes "%" ++ rhs 2)
operation_text Min lhs rhs = codes "min(" ++ (lhs 0 ++ (codes "," ++ (rhs 0 ++ codes ")")))
operation_text Max lhs rhs = codes "max(" ++ (lhs 0 ++ (codes "," ++ (rhs 0 ++ codes ")")))

-- the text of an expression
abbrev pub printed : NamedTree → List ℕ
printed (number z) = signed_decimal z
printed (name w) = w
printed (binary op a b) = operation_text op (λ asked. operand_text asked (tightness a) (printed a)) (λ asked. operand_text asked (tightness b) (printed b))

abbrev pub operand : ℕ → NamedTree → List ℕ
operand asked expr = operand_text asked (tightness expr) (printed expr)

-- ---- what the text is measured by

-- how many parentheses are opened
abbrev pub opened_in : List Token → ℕ
opened_in [] = 0
opened_in (token.left_paren ∷ rest) = 1 + opened_in rest
opened_in (_ ∷ rest) = opened_in rest

abbrev pub parentheses : List ℕ → ℕ
parentheses text = opened_in (plain_tokens (tokens_of text))

-- a number of one digit, or one that doesn't begin with 0
abbrev pub begins_well : List ℕ → Bool
begins_well [] = true
begins_well (b ∷ []) = true
begins_well (b ∷ c ∷ rest) = not (b == 48)

abbrev pub is_number : Token → Bool
is_number (token.number n) = true
is_number _ = false

-- a number has no leading zero
abbrev pub has_no_leading_zero : Placed → Bool
has_no_leading_zero p = not (is_number p.token) || begins_well p.bytes

abbrev pub has_no_leading_zeros : List ℕ → Bool
has_no_leading_zeros text = list_all has_no_leading_zero (tokens_of text)

abbrev pub has_no_spaces : List ℕ → Bool
has_no_spaces text = list_all (λ b. not (b == 32)) text

-- Parsing the text gives the expression with names, and binding these the expression.
pub record IsReadAgain (text : List ℕ) (names : List (List ℕ)) (expr : Tree) : Type 0 where
  pub parsed : Answers text (Ok (with_names names expr))
  pub bound : Binds names (with_names names expr) (Ok expr)

-- Some text within the limits of parsing states the expression.
pub record IsStatable (expr : NamedTree) : Type 0 where
  pub text : List ℕ
  pub answers : Answers text (Ok expr)
