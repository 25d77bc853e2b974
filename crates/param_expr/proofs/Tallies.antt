-- What the tally of a text's tokens says of them.
use Rattle.std.proofs.Common.{◌≡◌, ℕ, ◌-◌, ◌≤◌, max, List, [], ◌∷◌, Option, Some, None, ℤ, pos, refl, ap, ◌∙◌, Bool, true, false, cond, ◌^◌, arith}
use Rattle.std.specs.Option.{option_or}
use Rattle.std.specs.Prelude.{nat_lt}
use Rattle.param_expr.specs.Tokens.{Token, Placed, number, name, additive, multiplicative, function, left_paren, right_paren, comma, other}
use Rattle.param_expr.specs.Parse.{is_large, first_large, open_after, most_open}
use Rattle.param_expr.specs.Machine.{symbol_of, large_after, opened_after, tally_after, tallied, no_tally}
use Rattle.param_expr.specs.declared.symbol.Symbol.TheVariants.{Number}
use Rattle.param_expr.specs.declared.symbol.Tally.{Tally}

number_large : (at : ℕ) (b : Bool) (z : ℤ) (rest : Option ℕ) → option_or (large_after None at (Number (cond b None (Some z)))) rest ≡ cond b (Some at) rest
number_large at true z rest = refl
number_large at false z rest = refl

large_step : (l : Option ℕ) (at : ℕ) (t : Token) (rest : Option ℕ) → option_or (large_after l at (symbol_of t)) rest ≡ option_or l (cond (is_large t) (Some at) rest)
large_step (Some place) at t rest = refl
large_step None at (number n) rest = number_large at (nat_lt (2 ^ 63 - 1) n) (pos n) rest
large_step None at (name w) rest = refl
large_step None at (additive op) rest = refl
large_step None at (multiplicative op) rest = refl
large_step None at (function op) rest = refl
large_step None at left_paren rest = refl
large_step None at right_paren rest = refl
large_step None at comma rest = refl
large_step None at other rest = refl

none_more : (l : Option ℕ) → l ≡ option_or l None
none_more None = refl
none_more (Some n) = refl

large_from : (placed : List Placed) (tally : Tally) → (tallied tally placed).large ≡ option_or tally.large (first_large placed)
unfolding tallied
large_from [] tally = none_more tally.large
large_from (p ∷ rest) tally = large_from rest (tally_after tally p.at (symbol_of p.token)) ∙ large_step tally.large p.at p.token (first_large rest)

open_step : (n : ℕ) (t : Token) → opened_after n (symbol_of t) ≡ open_after n t
open_step n (number m) = refl
open_step n (name w) = refl
open_step n (additive op) = refl
open_step n (multiplicative op) = refl
open_step n (function op) = refl
open_step n left_paren = refl
open_step n right_paren = refl
open_step n comma = refl
open_step n other = refl

most_open_ge : (placed : List Placed) (n : ℕ) → n ≤ most_open n placed
most_open_ge [] n = omega arith
most_open_ge (p ∷ rest) n = omega arith

max_step : (deepest n after most : ℕ) → n ≤ deepest → after ≤ most → max (max deepest after) most ≡ max deepest (max n most)
max_step deepest n after most h k = omega arith

deep_from : (placed : List Placed) (tally : Tally) → tally.opened ≤ tally.deepest → (tallied tally placed).deepest ≡ max tally.deepest (most_open tally.opened placed)
unfolding tallied
deep_from [] tally h = omega arith
deep_from (p ∷ rest) tally h =
    let after : ℕ = opened_after tally.opened (symbol_of p.token) in
    let under : after ≤ max tally.deepest after = omega arith in
    let e : most_open after rest ≡ most_open (open_after tally.opened p.token) rest = ap (λ n. most_open n rest) (open_step tally.opened p.token) in
    deep_from rest (tally_after tally p.at (symbol_of p.token)) under
    ∙ max_step tally.deepest tally.opened after (most_open after rest) h (most_open_ge rest after)
    ∙ ap (λ n. max tally.deepest (max tally.opened n)) e

pub tally_large : (placed : List Placed) → (tallied no_tally placed).large ≡ first_large placed
tally_large placed = large_from placed no_tally

pub tally_deep : (placed : List Placed) → (tallied no_tally placed).deepest ≡ most_open 0 placed
tally_deep placed = deep_from placed no_tally (omega arith) ∙ omega arith
