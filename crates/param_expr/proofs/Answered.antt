-- What reading a text gives is the text's answer.
use Rattle.std.proofs.Common.{◌≡◌, ℕ, ◌<◌, ◌≤◌, List, Option, Some, None, Ok, Err, sym, ap, ◌∙◌, length, Bool, true, false, cond, arith}
use Rattle.std.specs.Prelude.{nat_lt}
use Rattle.std.proofs.lemmas.Bool.Decides.{nat_tests}
use Rattle.param_expr.specs.Named.{NamedTree}
use Rattle.param_expr.specs.Tokens.{tokens_of}
use Rattle.param_expr.specs.Grammar.{sum_tree}
use Rattle.param_expr.specs.Parse.{IsSpelled, Answers, UnlessMemory, first_large, most_open}
use Rattle.param_expr.specs.Machine.{ReadingGives, unless_large, judged_of}
use Rattle.param_expr.specs.Limits.{most_expression_bytes, most_open_parentheses}
use Rattle.param_expr.specs.declared.fault.ExprFault.{ExprFault}
use Rattle.param_expr.specs.declared.fault.ExprFault.TheVariants.{Syntax, TooLarge, TooDeep, TooLong, Memory}
use Rattle.param_expr.specs.declared.symbol.Tally.{Tally}
use Rattle.param_expr.specs.declared.reader.Reading.{Reading}
use Rattle.param_expr.proofs.Walks.{Found, run_finds, run_stops, found_spells, found_some}
use Rattle.param_expr.proofs.Tallies.{tally_large, tally_deep}

over : (m n : ℕ) → nat_lt m n ≡ true → m < n
over m n h = grind (arith, nat_tests)

within : (m n : ℕ) → nat_lt m n ≡ false → n ≤ m
within m n h = grind (arith, nat_tests)

is_spelled : (text : List ℕ) (expr : NamedTree) → length text ≤ most_expression_bytes → Found text expr → IsSpelled text
is_spelled text expr short h = record { short = short; expr = sum_tree h.sum; spelled = found_some text expr h }

found_answers : (text : List ℕ) (expr : NamedTree) (large : Option ℕ) (deep : Bool) → length text ≤ most_expression_bytes → Found text expr → first_large (tokens_of text) ≡ large → nat_lt most_open_parentheses (most_open 0 (tokens_of text)) ≡ deep → UnlessMemory (Answers text) (unless_large large (cond deep (Err TooDeep) (Ok expr)))
found_answers text expr (Some at) deep short h e f = (is_spelled text expr short h, e)
found_answers text expr None true short h e f = (is_spelled text expr short h, e, over _ _ f)
found_answers text expr None false short h e f = (short, found_spells text expr h e, e, within _ _ f)

pub read_answers : (text : List ℕ) (reading : Reading) → length text ≤ most_expression_bytes → ReadingGives text (Ok reading) → UnlessMemory (Answers text) (judged_of reading)
read_answers text reading short h =
    let large : first_large (tokens_of text) ≡ reading.tally.large = sym (ap (λ (t : Tally). t.large) h.1 ∙ tally_large (tokens_of text)) in
    let deep : most_open 0 (tokens_of text) ≡ reading.tally.deepest = sym (ap (λ (t : Tally). t.deepest) h.1 ∙ tally_deep (tokens_of text)) in
    found_answers text reading.parsed reading.tally.large _ short (run_finds text reading.parsed h.0) large (ap (nat_lt most_open_parentheses) deep)

pub stop_answers : (text : List ℕ) (fault : ExprFault) → length text ≤ most_expression_bytes → ReadingGives text (Err fault) → UnlessMemory (Answers text) (Err fault)
stop_answers text Memory short h = tt
stop_answers text (Syntax at) short h = (short, run_stops text at h)
stop_answers text (TooLarge at) short h = absurd h
stop_answers text TooDeep short h = absurd h
stop_answers text TooLong short h = absurd h
