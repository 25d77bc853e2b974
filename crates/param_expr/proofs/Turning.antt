-- One space or token of a text, as a reader takes it.
use Rattle.std.proofs.Common.{◌≡◌, ℕ, ◌+◌, ◌-◌, ◌<◌, ◌≤◌, zero, suc, List, [], ◌∷◌, length, get_or, drop, Bool, true, false, cond, eqb, Some, None, Ok, Err, refl, sym, ap, subst, ◌∙◌, arith, add-zero}
use Rattle.std.specs.Prelude.{take_while}
use Rattle.std.proofs.lemmas.List.{drop-drop, drop_more, drop_all, length-drop}
use Rattle.std.proofs.lemmas.List.Folds.{length-prefix_len}
use Rattle.std.proofs.lemmas.List.Sums.{prefix_len-le-length, take_while-cons}
use Rattle.std.proofs.lemmas.Bool.Decides.{nat_tests}
use Rattle.param_expr.specs.Words.{is_digit, is_letter, is_word_byte}
use Rattle.param_expr.specs.Tokens.{Placed, Token, Lexeme, front, front_at, tokens_from}
use Rattle.param_expr.specs.declared.fault.ExprFault.{ExprFault}
use Rattle.param_expr.specs.declared.fault.ExprFault.TheVariants.{Syntax, TooLarge, TooDeep, TooLong, Memory}
use Rattle.param_expr.specs.Named.{NamedTree}
use Rattle.param_expr.specs.Machine.{Turns, TurnGives, Gives, ReadingGives, first_reader, ended, end_of, tokens_after, outcome, tally_of, run, step, tallied, tally_after, opened_after, symbol_of}
use Rattle.param_expr.specs.declared.state.State.{State}
use Rattle.param_expr.specs.declared.symbol.Symbol.{Symbol}
use Rattle.param_expr.specs.declared.symbol.Symbol.TheVariants.{Open, Close}
use Rattle.param_expr.specs.declared.symbol.Tally.{Tally}
use Rattle.param_expr.specs.declared.reader.Reader.{Reader}

-- what is left of a token is skipped
pub skipped : (at skip : ℕ) (text : List ℕ) → skip ≤ length text → tokens_from at skip text ≡ tokens_from (at + skip) 0 (drop skip text)
unfolding tokens_from
skipped at zero text h = rw add-zero refl
skipped at (suc skip) [] h = absurd (omega arith)
skipped at (suc skip) (b ∷ text) h = skipped (at + 1) skip text (omega arith) ∙ ap (λ n. tokens_from n 0 (drop skip text)) (omega arith)

-- a space
space_front : (at b : ℕ) (rest : List ℕ) → b ≡ 32 → tokens_from at 0 (b ∷ rest) ≡ tokens_from (at + 1) 0 rest
unfolding tokens_from
space_front at b rest h = rw h refl

-- another byte
pub token_front : (at b : ℕ) (rest : List ℕ) → eqb b 32 ≡ false → tokens_from at 0 (b ∷ rest) ≡ front_at at (b ∷ rest) ∷ tokens_from (at + 1) (length (front (b ∷ rest)).bytes - 1) rest
unfolding tokens_from
token_front at b rest h = rw h refl

-- a token has a byte, and those that it has are there
pub record Bounded (bytes : List ℕ) (all : List ℕ) : Type 0 where
  pub low : 0 < length bytes
  pub high : length bytes ≤ length all

run_bounded : (p : ℕ → Bool) (b : ℕ) (rest : List ℕ) → p b ≡ true → Bounded (take_while p (b ∷ rest)) (b ∷ rest)
run_bounded p b rest h =
    let e : take_while p (b ∷ rest) ≡ b ∷ take_while p rest = take_while-cons p b rest ∙ rw h refl in
    record {
      low = rw e (omega arith);
      high = rw length-prefix_len (prefix_len-le-length p (b ∷ rest));
    }

letter_in_word : (b : ℕ) → is_letter b ≡ true → is_word_byte b ≡ true
letter_in_word b h = rw h refl

chosen_bounded : (b : ℕ) (rest : List ℕ) (t u v : Token) (d l : Bool) → is_digit b ≡ d → is_letter b ≡ l → Bounded (cond {A = Lexeme} d (record { bytes = take_while is_digit (b ∷ rest); token = t }) (cond {A = Lexeme} l (record { bytes = take_while is_word_byte (b ∷ rest); token = u }) (record { bytes = b ∷ []; token = v }))).bytes (b ∷ rest)
chosen_bounded b rest t u v true l e f = run_bounded is_digit b rest e
chosen_bounded b rest t u v false true e f = run_bounded is_word_byte b rest (letter_in_word b f)
chosen_bounded b rest t u v false false e f = record { low = omega arith; high = omega arith }

pub front_bounded : (b : ℕ) (rest : List ℕ) → Bounded (front (b ∷ rest)).bytes (b ∷ rest)
front_bounded b rest = chosen_bounded b rest _ _ _ (is_digit b) (is_letter b) refl refl

-- what follows a token of n bytes
after_token : (text : List ℕ) (at b : ℕ) (rest : List ℕ) (n : ℕ) → drop at text ≡ b ∷ rest → 0 < n → n ≤ length (b ∷ rest) → tokens_from (at + 1) (n - 1) rest ≡ tokens_after text (at + n)
after_token text at b rest zero e low high = absurd (omega arith)
after_token text at b rest (suc m) e low high =
    let here : suc m - 1 ≡ m = omega arith in
    let there : at + 1 + m ≡ at + suc m = omega arith in
    let rest_is : drop m rest ≡ drop (at + suc m) text = ap (drop (suc m)) (sym e) ∙ drop-drop (suc m) at text in
    ap (λ k. tokens_from (at + 1) k rest) here ∙ skipped (at + 1) m rest (omega arith) ∙ ap (λ k. tokens_from k 0 (drop m rest)) there ∙ ap (tokens_from (at + suc m) 0) rest_is

-- where a text goes on with b and rest, the tokens do
tokens_at : (text : List ℕ) (at b : ℕ) (rest all : List ℕ) → drop at text ≡ b ∷ rest → all ≡ b ∷ rest → eqb b 32 ≡ false → tokens_after text at ≡ front_at at all ∷ tokens_after text (at + length (front all).bytes)
tokens_at text at b rest all e here h =
    let bounds = front_bounded b rest in
    ap (tokens_from at 0) e ∙ token_front at b rest h
    ∙ ap (λ ts. front_at at (b ∷ rest) ∷ ts) (after_token text at b rest (length (front (b ∷ rest)).bytes) e bounds.low bounds.high)
    ∙ ap (λ (xs : List ℕ). front_at at xs ∷ tokens_after text (at + length (front xs).bytes)) (sym here)

bounded_at : (b : ℕ) (rest all : List ℕ) → all ≡ b ∷ rest → Bounded (front all).bytes all
bounded_at b rest all e = subst (λ xs. Bounded (front xs).bytes xs) (sym e) (front_bounded b rest)

-- ---- the turns of a reader

pub space_turns : (text : List ℕ) (old : Reader) (d : ℕ) → old.at < length text → get_or text old.at d ≡ 32 → Turns text old (record old { at = old.at + 1 })
space_turns text old d more space =
    let same : tokens_after text (old.at + 1) ≡ tokens_after text old.at = sym (ap (tokens_from old.at 0) (drop_more text old.at d more) ∙ space_front old.at (get_or text old.at d) (drop (old.at + 1) text) space) in
    record {
      outcome_is = ap (run (length text) old.state) same;
      tally_is = ap (tallied old.tally) same;
      on = omega arith;
      within = omega arith;
      opened = omega arith;
    }

run_step : (finish : ℕ) (state after : State) (p : Placed) (rest : List Placed) → step state (symbol_of p.token) ≡ Some after → run finish state (p ∷ rest) ≡ run finish after rest
unfolding run
run_step finish state after p rest h = rw h refl

run_stop : (finish : ℕ) (state : State) (p : Placed) (rest : List Placed) → step state (symbol_of p.token) ≡ None → run finish state (p ∷ rest) ≡ Err p.at
unfolding run
run_stop finish state p rest h = rw h refl

tally_step : (tally : Tally) (p : Placed) (rest : List Placed) → tallied tally (p ∷ rest) ≡ tallied (tally_after tally p.at (symbol_of p.token)) rest
unfolding tallied
tally_step tally p rest = refl

opened_le : (opened : ℕ) (symbol : Symbol) → opened_after opened symbol ≤ opened + 1
opened_le opened Open = omega arith
opened_le opened Close = omega arith
opened_le opened _ = omega arith

-- the token at a place of a text
abbrev pub token_there : List ℕ → ℕ → Token
token_there text at = (front (drop at text)).token

abbrev pub end_there : List ℕ → ℕ → ℕ
end_there text at = at + length (front (drop at text)).bytes

tokens_there : (text : List ℕ) (at d : ℕ) → at < length text → eqb (get_or text at d) 32 ≡ false → tokens_after text at ≡ front_at at (drop at text) ∷ tokens_after text (end_there text at)
tokens_there text at d more h = tokens_at text at (get_or text at d) (drop (at + 1) text) (drop at text) (drop_more text at d more) (drop_more text at d more) h

not_space : (b : ℕ) → (b ≡ 32 → ⊥) → eqb b 32 ≡ false
not_space b h = grind (arith, nat_tests)

pub token_turns : (text : List ℕ) (old : Reader) (d : ℕ) (rest : List ℕ) → rest ≡ drop old.at text → (symbol : Symbol) (n : ℕ) (tally : Tally) (after : State) → old.at < length text → (get_or text old.at d ≡ 32 → ⊥) → symbol ≡ symbol_of (front rest).token → n ≡ length (front rest).bytes → tally ≡ tally_after old.tally old.at symbol → step old.state symbol ≡ Some after → Turns text old (record { state = after; tally = tally; at = old.at + n })
token_turns text old d rest rest_is symbol n tally after more h symbol_is length_is tally_is goes =
    let is : symbol ≡ symbol_of (token_there text old.at) = symbol_is ∙ ap (λ (xs : List ℕ). symbol_of (front xs).token) rest_is in
    let n_is : n ≡ length (front (drop old.at text)).bytes = length_is ∙ ap (λ (xs : List ℕ). length (front xs).bytes) rest_is in
    let same = tokens_there text old.at d more (not_space (get_or text old.at d) h) in
    let bounds = bounded_at (get_or text old.at d) (drop (old.at + 1) text) (drop old.at text) (drop_more text old.at d more) in
    let low : 0 < length (front (drop old.at text)).bytes = bounds.low in
    let high : length (front (drop old.at text)).bytes ≤ length (drop old.at text) = bounds.high in
    let long : length (drop old.at text) ≡ length text - old.at = length-drop old.at text in
    let few : opened_after old.tally.opened symbol ≤ old.tally.opened + 1 = opened_le old.tally.opened symbol in
    let tally_opened : tally.opened ≡ opened_after old.tally.opened symbol = ap (λ (t : Tally). t.opened) tally_is in
    record {
      outcome_is = ap (λ k. run (length text) after (tokens_after text (old.at + k))) n_is ∙ sym (ap (run (length text) old.state) same ∙ run_step (length text) old.state after (front_at old.at (drop old.at text)) _ (ap (step old.state) (sym is) ∙ goes));
      tally_is = ap (λ k. tallied tally (tokens_after text (old.at + k))) n_is ∙ ap (λ t. tallied t (tokens_after text (end_there text old.at))) (tally_is ∙ ap (tally_after old.tally old.at) is) ∙ sym (ap (tallied old.tally) same ∙ tally_step old.tally (front_at old.at (drop old.at text)) _);
      on = omega arith;
      within = omega arith;
      opened = omega arith;
    }

pub token_stops : (text : List ℕ) (old : Reader) (d : ℕ) (rest : List ℕ) → rest ≡ drop old.at text → (symbol : Symbol) (fault : ExprFault) → old.at < length text → (get_or text old.at d ≡ 32 → ⊥) → symbol ≡ symbol_of (front rest).token → Gives {A = State} old.at (Err fault) (step old.state symbol) → TurnGives text old (Err fault)
token_stops text old d rest rest_is symbol Memory more h is stops = tt
token_stops text old d rest rest_is symbol (Syntax place) more h is stops = ap (run (length text) old.state) (tokens_there text old.at d more (not_space (get_or text old.at d) h)) ∙ run_stop (length text) old.state (front_at old.at (drop old.at text)) _ (ap (λ (xs : List ℕ). step old.state (symbol_of (front xs).token)) (sym rest_is) ∙ ap (step old.state) (sym is) ∙ stops.0) ∙ ap (λ n. Err n) (sym stops.1)
token_stops text old d rest rest_is symbol (TooLarge place) more h is stops = absurd stops
token_stops text old d rest rest_is symbol TooDeep more h is stops = absurd stops
token_stops text old d rest rest_is symbol TooLong more h is stops = absurd stops

-- ---- the end of a text

nothing_left : (text : List ℕ) (at : ℕ) → length text ≤ at → tokens_after text at ≡ []
unfolding tokens_from
nothing_left text at h = ap (tokens_from at 0) (drop_all at text h)

end_outcome : (text : List ℕ) (reader : Reader) → length text ≤ reader.at → outcome text reader ≡ ended (length text) (end_of reader.state)
unfolding run
end_outcome text reader h = ap (run (length text) reader.state) (nothing_left text reader.at h)

end_tally : (text : List ℕ) (reader : Reader) → length text ≤ reader.at → tally_of text reader ≡ reader.tally
unfolding tallied
end_tally text reader h = ap (tallied reader.tally) (nothing_left text reader.at h)

pub read_whole : (text : List ℕ) (reader : Reader) (parsed : NamedTree) → length text ≤ reader.at → outcome text reader ≡ outcome text first_reader → tally_of text reader ≡ tally_of text first_reader → end_of reader.state ≡ Some parsed → ReadingGives text (Ok (record { parsed = parsed; tally = reader.tally }))
read_whole text reader parsed h same tallies is =
    (sym same ∙ end_outcome text reader h ∙ ap (ended (length text)) is, sym (end_tally text reader h) ∙ tallies)

pub read_short : (text : List ℕ) (reader : Reader) (fault : ExprFault) (n : ℕ) → length text ≤ reader.at → n ≡ length text → outcome text reader ≡ outcome text first_reader → Gives {A = NamedTree} n (Err fault) (end_of reader.state) → ReadingGives text (Err fault)
read_short text reader Memory n h n_is same stops = tt
read_short text reader (Syntax place) n h n_is same stops = sym same ∙ end_outcome text reader h ∙ ap (ended (length text)) stops.0 ∙ ap (λ k. Err k) (sym n_is ∙ sym stops.1)
read_short text reader (TooLarge place) n h n_is same stops = absurd stops
read_short text reader TooDeep n h n_is same stops = absurd stops
read_short text reader TooLong n h n_is same stops = absurd stops
