-- What parsing a text answers.
use Rattle.std.specs.Prelude.{◌≡◌, ℕ, ◌+◌, ◌-◌, ◌^◌, ◌<◌, ◌≤◌, max, nat_lt, pos, negsuc, Bool, false, List, [], ◌∷◌, ◌++◌, length, Option, Some, None, Result, Ok, Err, ◌⊎◌, if◌then◌else◌}
use Rattle.param_expr.specs.Named as tree
use Rattle.param_expr.specs.Named.{NamedTree}
use Rattle.param_expr.specs.Words.{IsName}
use Rattle.param_expr.specs.Tokens.{Token, number, left_paren, right_paren, Placed, tokens_of, plain_tokens}
use Rattle.param_expr.specs.Grammar.{Sum, sum_tokens, Spells}
use Rattle.param_expr.specs.Limits.{most_expression_bytes, most_open_parentheses}
use Rattle.param_expr.specs.declared.fault.ExprFault.{ExprFault}
use Rattle.param_expr.specs.declared.fault.ExprFault.TheVariants.{Syntax, TooLarge, TooDeep, TooLong, Memory}

-- some sum begins with these tokens
pub record BeginsSum (tokens : List Token) : Type 0 where
  pub more : List Token
  pub sum : Sum
  pub is : sum_tokens sum ≡ tokens ++ more

-- The token at this byte is the first that doesn't fit: those before it begin a sum, and with it they begin none.
pub record StopsAtToken (text : List ℕ) (at : ℕ) : Type 0 where
  pub before : List Placed
  pub stop : Placed
  pub after : List Placed
  pub cut : tokens_of text ≡ before ++ stop ∷ after
  pub place : stop.at ≡ at
  pub fits : BeginsSum (plain_tokens before)
  pub stops : ¬ (BeginsSum (plain_tokens (before ++ stop ∷ [])))

-- All tokens begin a sum, and are none: at the end of the text one is missing.
pub record StopsAtEnd (text : List ℕ) (at : ℕ) : Type 0 where
  pub place : length text ≡ at
  pub fits : BeginsSum (plain_tokens (tokens_of text))
  pub stops : (expr : NamedTree) → ¬ (Spells text expr)

-- at this byte no further token fits the grammar
abbrev pub StopsAt : List ℕ → ℕ → Type 0
StopsAt text at = StopsAtToken text at ⊎ StopsAtEnd text at

-- a number that is over i64
abbrev pub is_large : Token → Bool
is_large (number n) = nat_lt (2 ^ 63 - 1) n
is_large _ = false

-- the first byte of the first number over i64
abbrev pub first_large : List Placed → Option ℕ
first_large [] = None
first_large (p ∷ rest) = if is_large p.token then Some p.at else first_large rest

-- how many parentheses are open after a token
abbrev pub open_after : ℕ → Token → ℕ
open_after open_now left_paren = open_now + 1
open_after open_now right_paren = open_now - 1
open_after open_now _ = open_now

-- the most parentheses open at once, where so many are open before
abbrev pub most_open : ℕ → List Placed → ℕ
most_open open_now [] = open_now
most_open open_now (p ∷ rest) = max open_now (most_open (open_after open_now p.token) rest)

-- a text that is short enough and spells some tree
pub record IsSpelled (text : List ℕ) : Type 0 where
  pub short : length text ≤ most_expression_bytes
  pub expr : NamedTree
  pub spelled : Spells text expr

-- The tree that a text spells, or the first of the faults that it shows.
abbrev pub Answers : List ℕ → Result NamedTree ExprFault → Type 0
Answers text (Err TooLong) = most_expression_bytes < length text
Answers text (Err (Syntax at)) = (length text ≤ most_expression_bytes) × StopsAt text at
Answers text (Err (TooLarge at)) = IsSpelled text × (first_large (tokens_of text) ≡ Some at)
Answers text (Err TooDeep) = IsSpelled text × (first_large (tokens_of text) ≡ None) × (most_open_parentheses < most_open 0 (tokens_of text))
Answers text (Ok expr) = (length text ≤ most_expression_bytes) × Spells text expr × (first_large (tokens_of text) ≡ None) × (most_open 0 (tokens_of text) ≤ most_open_parentheses)
Answers text (Err Memory) = ⊥

-- the result is such an answer, unless memory ran out
abbrev pub UnlessMemory : (Result NamedTree ExprFault → Type 0) → Result NamedTree ExprFault → Type 0
UnlessMemory P (Err Memory) = Unit {0}
UnlessMemory P (Err TooLong) = P (Err TooLong)
UnlessMemory P (Err (Syntax at)) = P (Err (Syntax at))
UnlessMemory P (Err (TooLarge at)) = P (Err (TooLarge at))
UnlessMemory P (Err TooDeep) = P (Err TooDeep)
UnlessMemory P (Ok expr) = P (Ok expr)

-- the second result is the first one, unless that is want of memory
abbrev pub SameUnlessMemory : Result NamedTree ExprFault → Result NamedTree ExprFault → Type 0
SameUnlessMemory result answer = UnlessMemory (λ found. answer ≡ found) result

-- each number is at least 0, and each name is a name
abbrev pub IsStated : NamedTree → Type 0
IsStated (tree.number (pos n)) = Unit {0}
IsStated (tree.number (negsuc n)) = ⊥
IsStated (tree.name w) = IsName w
IsStated (tree.binary op a b) = IsStated a × IsStated b
