-- The one answer of a text, computed.
use Rattle.std.proofs.Common.{◌≡◌, ℕ, ◌<◌, ◌≤◌, List, Option, Some, None, Result, Ok, Err, refl, length, Bool, true, false, cond, arith}
use Rattle.std.specs.Prelude.{nat_lt}
use Rattle.std.proofs.lemmas.Bool.Decides.{nat_tests}
use Rattle.param_expr.specs.Named.{NamedTree}
use Rattle.param_expr.specs.Parse.{Answers, UnlessMemory, SameUnlessMemory}
use Rattle.param_expr.specs.Machine.{outcome, tally_of, first_reader, judged_of, judged_reading, answer_of}
use Rattle.param_expr.specs.Limits.{most_expression_bytes, most_open_parentheses}
use Rattle.param_expr.specs.declared.fault.ExprFault.{ExprFault}
use Rattle.param_expr.specs.declared.fault.ExprFault.TheVariants.{Syntax, TooLarge, TooDeep, TooLong, Memory}
use Rattle.param_expr.specs.declared.symbol.Tally.{Tally}
use Rattle.param_expr.proofs.Answered.{read_answers, stop_answers}
use Rattle.param_expr.proofs.OneAnswer.{one_answer}

over : (m n : ℕ) → nat_lt m n ≡ true → m < n
over m n h = grind (arith, nat_tests)

within : (m n : ℕ) → nat_lt m n ≡ false → n ≤ m
within m n h = grind (arith, nat_tests)

-- an answer that isn't want of memory
data Told : Result NamedTree ExprFault → Type 0 where
  found : (expr : NamedTree) → Told (Ok expr)
  long : Told (Err TooLong)
  stops : (at : ℕ) → Told (Err (Syntax at))
  large : (at : ℕ) → Told (Err (TooLarge at))
  deep : Told (Err TooDeep)

told_holds : (P : Result NamedTree ExprFault → Type 0) (r : Result NamedTree ExprFault) → Told r → UnlessMemory P r → P r
told_holds P r (found expr) h = h
told_holds P r long h = h
told_holds P r (stops at) h = h
told_holds P r (large at) h = h
told_holds P r deep h = h

judged_told : (expr : NamedTree) (l : Option ℕ) (opened deepest : ℕ) → Told (judged_of (record { parsed = expr; tally = record { large = l; opened = opened; deepest = deepest } }))
judged_told expr (Some at) opened deepest = large at
judged_told expr None opened deepest = told_if (nat_lt most_open_parentheses deepest)
  where
    told_if : (b : Bool) → Told (cond b (Err TooDeep) (Ok expr))
    told_if true = deep
    told_if false = found expr

reading_told : (tally : Tally) (r : Result NamedTree ℕ) → Told (judged_reading tally r)
reading_told tally (Err at) = stops at
reading_told tally (Ok expr) = judged_told expr tally.large tally.opened tally.deepest

if_told : (b : Bool) (r : Result NamedTree ExprFault) → Told r → Told (cond b (Err TooLong) r)
if_told true r h = long
if_told false r h = h

answer_told : (text : List ℕ) → Told (answer_of text)
unfolding answer_of
answer_told text = if_told (nat_lt most_expression_bytes (length text)) (judged_reading (tally_of text first_reader) (outcome text first_reader)) (reading_told (tally_of text first_reader) (outcome text first_reader))

reading_answers : (text : List ℕ) (r : Result NamedTree ℕ) → length text ≤ most_expression_bytes → outcome text first_reader ≡ r → UnlessMemory (Answers text) (judged_reading (tally_of text first_reader) r)
reading_answers text (Err at) short h = stop_answers text (Syntax at) short h
reading_answers text (Ok expr) short h = read_answers text (record { parsed = expr; tally = tally_of text first_reader }) short (h, refl)

if_answers : (text : List ℕ) (b : Bool) → nat_lt most_expression_bytes (length text) ≡ b → UnlessMemory (Answers text) (cond b (Err TooLong) (judged_reading (tally_of text first_reader) (outcome text first_reader)))
if_answers text true h = over _ _ h
if_answers text false h = reading_answers text (outcome text first_reader) (within _ _ h) refl

pub answers : (text : List ℕ) → Answers text (answer_of text)
unfolding answer_of
answers text = told_holds (Answers text) (answer_of text) (answer_told text) (if_answers text (nat_lt most_expression_bytes (length text)) refl)

same_told : (r a : Result NamedTree ExprFault) → Told r → SameUnlessMemory r a → a ≡ r
same_told r a (found expr) h = h
same_told r a long h = h
same_told r a (stops at) h = h
same_told r a (large at) h = h
same_told r a deep h = h

unless_told : (text : List ℕ) (r : Result NamedTree ExprFault) → Told r → Answers text r → UnlessMemory (Answers text) r
unless_told text r (found expr) h = h
unless_told text r long h = h
unless_told text r (stops at) h = h
unless_told text r (large at) h = h
unless_told text r deep h = h

-- whatever answers a text is its one answer
pub answer_is : (text : List ℕ) (answer : Result NamedTree ExprFault) → Answers text answer → answer ≡ answer_of text
answer_is text answer h = same_told (answer_of text) answer (answer_told text) (one_answer text (answer_of text) answer (unless_told text (answer_of text) (answer_told text) (answers text)) h)

pub computed : (text : List ℕ) (r : Result NamedTree ExprFault) → UnlessMemory (Answers text) r → UnlessMemory (λ found. found ≡ answer_of text) r
computed text (Ok expr) h = answer_is text (Ok expr) h
computed text (Err TooLong) h = answer_is text (Err TooLong) h
computed text (Err (Syntax at)) h = answer_is text (Err (Syntax at)) h
computed text (Err (TooLarge at)) h = answer_is text (Err (TooLarge at)) h
computed text (Err TooDeep) h = answer_is text (Err TooDeep) h
computed text (Err Memory) h = tt
