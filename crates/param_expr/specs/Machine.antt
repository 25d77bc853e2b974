-- Reading an expression symbol by symbol.
use Rattle.std.specs.Prelude.{◌≡◌, ℕ, ◌+◌, ◌-◌, ◌^◌, ◌<◌, ◌≤◌, max, nat_lt, pos, ℤ, List, [], ◌∷◌, Option, Some, None, Result, Ok, Err, unwrap_or, length, drop, if◌then◌else◌}
use Rattle.param_expr.specs.Named.{NamedTree, number, name, binary}
use Rattle.param_expr.specs.Tokens as token
use Rattle.param_expr.specs.Tokens.{Token, Placed, tokens_from}
use Rattle.param_expr.specs.Limits.{most_expression_bytes, most_open_parentheses}
use Rattle.param_expr.specs.declared.op.Op.{Op}
use Rattle.param_expr.specs.declared.symbol.Symbol.{Symbol}
use Rattle.param_expr.specs.declared.symbol.Symbol.TheVariants.{Number, Word, Additive, Multiplicative, Function, Open, Close, Comma, Other}
use Rattle.param_expr.specs.declared.symbol.Tally.{Tally}
use Rattle.param_expr.specs.declared.fault.ExprFault.{ExprFault}
use Rattle.param_expr.specs.declared.fault.ExprFault.TheVariants.{Syntax, TooLarge, TooDeep, TooLong, Memory}
use Rattle.param_expr.specs.declared.state.Lhs.{Lhs}
use Rattle.param_expr.specs.declared.state.Waiting.{Waiting}
use Rattle.param_expr.specs.declared.state.Opened.{Opened}
use Rattle.param_expr.specs.declared.state.Opened.TheVariants.{Group, First, Second}
use Rattle.param_expr.specs.declared.state.Outer.{Outer}
use Rattle.param_expr.specs.declared.state.State.{State}
use Rattle.param_expr.specs.declared.state.State.TheVariants.{Want, Called, Have}
use Rattle.param_expr.specs.declared.reader.Reader.{Reader}
use Rattle.param_expr.specs.declared.reader.Reading.{Reading}

-- a number that i64 has
abbrev pub limited : ℕ → Option ℤ
limited n = if nat_lt (2 ^ 63 - 1) n then None else Some (pos n)

-- a token, as the parser takes it
abbrev pub symbol_of : Token → Symbol
symbol_of (token.number n) = Number (limited n)
symbol_of (token.name w) = Word w
symbol_of (token.additive op) = Additive op
symbol_of (token.multiplicative op) = Multiplicative op
symbol_of (token.function op) = Function op
symbol_of token.left_paren = Open
symbol_of token.right_paren = Close
symbol_of token.comma = Comma
symbol_of token.other = Other

-- What was read is as read says, unless memory ran out.
abbrev pub Gives : {A : Type 0} → ℕ → Result A ExprFault → Option A → Type 0
Gives at (Ok x) read = read ≡ Some x
Gives at (Err Memory) read = Unit {0}
Gives at (Err (Syntax place)) read = (read ≡ None) × (place ≡ at)
Gives at (Err (TooLarge place)) read = ⊥
Gives at (Err TooDeep) read = ⊥
Gives at (Err TooLong) read = ⊥

-- an operand, joined to the left side that waits for it
abbrev pub joined : Option Lhs → NamedTree → NamedTree
joined None rhs = rhs
joined (Some lhs) rhs = binary lhs.op lhs.operand rhs

abbrev pub term_with : Waiting → NamedTree → NamedTree
term_with waiting operand = joined waiting.term operand

abbrev pub sum_with : Waiting → NamedTree → NamedTree
sum_with waiting operand = joined waiting.sum (term_with waiting operand)

abbrev pub nothing : Waiting
nothing = record { sum = None; term = None }

abbrev pub start : State
start = Want nothing []

-- after an operator between terms, and between factors
abbrev pub after_additive : Op → Waiting → NamedTree → Waiting
after_additive op waiting operand = record { sum = Some (record { operand = sum_with waiting operand; op = op }); term = None }

abbrev pub after_multiplicative : Op → Waiting → NamedTree → Waiting
after_multiplicative op waiting operand = record { sum = waiting.sum; term = Some (record { operand = term_with waiting operand; op = op }) }

-- a group or a call that ends with this sum
abbrev pub closed : NamedTree → List Outer → Option State
closed sum [] = None
closed sum (outer ∷ rest) = closed_in outer.opened
  where
    closed_in : Opened → Option State
    closed_in Group = Some (Have outer.waiting sum rest)
    closed_in (First op) = None
    closed_in (Second op first) = Some (Have outer.waiting (binary op first sum) rest)

-- a call whose first sum this is
abbrev pub divided : NamedTree → List Outer → Option State
divided sum [] = None
divided sum (outer ∷ rest) = divided_in outer.opened
  where
    divided_in : Opened → Option State
    divided_in Group = None
    divided_in (First op) = Some (Want nothing (record { waiting = outer.waiting; opened = Second op sum } ∷ rest))
    divided_in (Second op first) = None

-- after a symbol, if an expression can go on with it
abbrev pub step : State → Symbol → Option State
step (Want waiting rest) (Number value) = Some (Have waiting (number (unwrap_or value (pos 0))) rest)
step (Want waiting rest) (Word w) = Some (Have waiting (name w) rest)
step (Want waiting rest) Open = Some (Want nothing (record { waiting = waiting; opened = Group } ∷ rest))
step (Want waiting rest) (Function op) = Some (Called op waiting rest)
step (Called op waiting rest) Open = Some (Want nothing (record { waiting = waiting; opened = First op } ∷ rest))
step (Have waiting operand rest) (Additive op) = Some (Want (after_additive op waiting operand) rest)
step (Have waiting operand rest) (Multiplicative op) = Some (Want (after_multiplicative op waiting operand) rest)
step (Have waiting operand rest) Close = closed (sum_with waiting operand) rest
step (Have waiting operand rest) Comma = divided (sum_with waiting operand) rest
step _ _ = None

-- the expression at the end
abbrev pub end_of : State → Option NamedTree
end_of (Have waiting operand []) = Some (sum_with waiting operand)
end_of _ = None

abbrev pub ended : ℕ → Option NamedTree → Result NamedTree ℕ
ended at None = Err at
ended at (Some expr) = Ok expr

abbrev pub next : ℕ → (State → Result NamedTree ℕ) → Option State → Result NamedTree ℕ
next at more None = Err at
next at more (Some state) = more state

-- the expression, or the place of the first token with which none goes on
unfoldable pub run : ℕ → State → List Placed → Result NamedTree ℕ
run finish state [] = ended finish (end_of state)
run finish state (p ∷ rest) = next p.at (λ after. run finish after rest) (step state (symbol_of p.token))

-- the first number over i64 and the most open parentheses, token by token
abbrev pub opened_after : ℕ → Symbol → ℕ
opened_after opened Open = opened + 1
opened_after opened Close = opened - 1
opened_after opened _ = opened

abbrev pub large_after : Option ℕ → ℕ → Symbol → Option ℕ
large_after (Some place) at symbol = Some place
large_after None at (Number None) = Some at
large_after None at _ = None

abbrev pub tally_after : Tally → ℕ → Symbol → Tally
tally_after tally at symbol = record {
  large = large_after tally.large at symbol;
  opened = opened_after tally.opened symbol;
  deepest = max tally.deepest (opened_after tally.opened symbol);
}

unfoldable pub tallied : Tally → List Placed → Tally
tallied tally [] = tally
tallied tally (p ∷ rest) = tallied (tally_after tally p.at (symbol_of p.token)) rest

abbrev pub no_tally : Tally
no_tally = record { large = None; opened = 0; deepest = 0 }

-- the tokens that are left from a place on
abbrev pub tokens_after : List ℕ → ℕ → List Placed
tokens_after text at = tokens_from at 0 (drop at text)

-- what the rest of a text makes of a reader
abbrev pub outcome : List ℕ → Reader → Result NamedTree ℕ
outcome text reader = run (length text) reader.state (tokens_after text reader.at)

abbrev pub tally_of : List ℕ → Reader → Tally
tally_of text reader = tallied reader.tally (tokens_after text reader.at)

-- from one reader to the next nothing is lost
pub record Turns (text : List ℕ) (old new : Reader) : Type 0 where
  pub outcome_is : outcome text new ≡ outcome text old
  pub tally_is : tally_of text new ≡ tally_of text old
  pub on : old.at < new.at
  pub within : new.at ≤ length text
  pub opened : new.tally.opened ≤ old.tally.opened + 1

abbrev pub TurnGives : List ℕ → Reader → Result Reader ExprFault → Type 0
TurnGives text old (Ok new) = Turns text old new
TurnGives text old (Err (Syntax at)) = outcome text old ≡ Err at
TurnGives text old (Err Memory) = Unit {0}
TurnGives text old (Err (TooLarge at)) = ⊥
TurnGives text old (Err TooDeep) = ⊥
TurnGives text old (Err TooLong) = ⊥

abbrev pub first_reader : Reader
first_reader = record { state = start; tally = no_tally; at = 0 }

-- what reading a text gives, unless memory ran out
abbrev pub ReadingGives : List ℕ → Result Reading ExprFault → Type 0
ReadingGives text (Ok reading) = (outcome text first_reader ≡ Ok reading.parsed) × (reading.tally ≡ tally_of text first_reader)
ReadingGives text (Err (Syntax at)) = outcome text first_reader ≡ Err at
ReadingGives text (Err Memory) = Unit {0}
ReadingGives text (Err (TooLarge at)) = ⊥
ReadingGives text (Err TooDeep) = ⊥
ReadingGives text (Err TooLong) = ⊥

-- what is answered once a text was read
abbrev pub unless_large : Option ℕ → Result NamedTree ExprFault → Result NamedTree ExprFault
unless_large (Some at) answer = Err (TooLarge at)
unless_large None answer = answer

abbrev pub judged_of : Reading → Result NamedTree ExprFault
judged_of reading = unless_large reading.tally.large (if nat_lt most_open_parentheses reading.tally.deepest then Err TooDeep else Ok reading.parsed)

abbrev pub judged_reading : Tally → Result NamedTree ℕ → Result NamedTree ExprFault
judged_reading tally (Err at) = Err (Syntax at)
judged_reading tally (Ok expr) = judged_of (record { parsed = expr; tally = tally })

-- the one answer that a text has
unfoldable pub answer_of : List ℕ → Result NamedTree ExprFault
answer_of text = if nat_lt most_expression_bytes (length text) then Err TooLong else judged_reading (tally_of text first_reader) (outcome text first_reader)
