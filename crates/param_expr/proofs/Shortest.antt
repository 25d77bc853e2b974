-- No text of a tree is shorter than what is printed of it.
use Rattle.std.proofs.Common.{◌≡◌, ℕ, ◌+◌, ◌-◌, ◌<◌, ◌≤◌, ◌^◌, zero, suc, List, [], ◌∷◌, ◌++◌, length, Bool, true, false, cond, eqb, pos, negsuc, refl, sym, ap, ◌∙◌, length-append, arith}
use Rattle.std.proofs.lemmas.Fmt.{length-decimal-le}
use Rattle.std.proofs.lemmas.Str.Parse.{digits_value_short}
use Rattle.std.proofs.lemmas.Bool.{cond_both, leb-true, ltb-true, ltb-false}
use Rattle.std.specs.Prelude.{codes, nat_lt, decimal, nat_le}
use Rattle.std.specs.List.{list_all}
use Rattle.std.specs.Str.Parse.{digits_value}
use Rattle.param_expr.specs.Named as tree
use Rattle.param_expr.specs.Named.{NamedTree}
use Rattle.param_expr.specs.Words.{is_digit}
use Rattle.param_expr.specs.Tokens.{Token, number, name, additive, multiplicative, function, right_paren, comma, other, word_token, mark_of, Lexeme, front, front_at, tokens_from, tokens_of, plain_tokens}
use Rattle.param_expr.specs.Grammar.{Sum, Term, Factor, one_term, sum_of, one_factor, product_of, literal, named, group, call, sum_tokens, term_tokens, factor_tokens, Spells}
use Rattle.param_expr.specs.Print.{tightness, printed, operand}
use Rattle.param_expr.specs.declared.op.Op.TheVariants.{Add, Sub, Mul, Div, Rem, Min, Max}
use Rattle.param_expr.proofs.Measures.{Measure, sum_measure, term_measure, factor_measure, least, least_at}
use Rattle.param_expr.proofs.Derived.{Writable}
use Rattle.param_expr.proofs.Least.{spelled_least}
use Rattle.param_expr.proofs.Numerals.{own}
use Rattle.param_expr.proofs.Turning.{front_bounded}
use Rattle.param_expr.proofs.Written.{whole_operand}
use Rattle.param_expr.proofs.Fronts.{word_has, mark_has, front_has}

-- ---- the fewest bytes of tokens

-- of a number over i64 nothing is said
abbrev number_bytes : ℕ → ℕ
number_bytes n = cond (nat_lt n (2 ^ 63)) (length (decimal n)) 0

abbrev token_bytes : Token → ℕ
token_bytes (number n) = number_bytes n
token_bytes (name w) = length w
token_bytes (function op) = 3
token_bytes other = 0
token_bytes _ = 1

abbrev bytes_in : List Token → ℕ
bytes_in [] = 0
bytes_in (t ∷ rest) = token_bytes t + bytes_in rest

bytes_in-append : (a b : List Token) → bytes_in (a ++ b) ≡ bytes_in a + bytes_in b
bytes_in-append [] b = omega arith
bytes_in-append (t ∷ a) b = omega (arith, bytes_in-append a b)

-- ---- a text has them

number_fits : (n k : ℕ) → 0 < k → n < 10 ^ k → number_bytes n ≤ k
number_fits n k some h = cond_both (nat_lt n (2 ^ 63)) (length (decimal n)) 0 (λ m. m ≤ k) (λ e. length-decimal-le k n some h (omega (arith, ltb-true n (2 ^ 63) e))) (λ e. omega arith)

run_fits : (ds : List ℕ) → list_all is_digit ds ≡ true → 0 < length ds → number_bytes (digits_value 10 ds) ≤ length ds
run_fits ds all some = number_fits (digits_value 10 ds) (length ds) some (digits_value_short own ds (length ds) all (omega arith))

abbrev Fits : Lexeme → Type 0
Fits l = 0 < length l.bytes → token_bytes l.token ≤ length l.bytes

word_fits : (w : List ℕ) → token_bytes (word_token w) ≤ length w
word_fits w = word_has (λ t. token_bytes t ≤ length w) w (λ e. omega (arith, ap length e)) (λ e. omega (arith, ap length e)) (λ e. omega arith) (omega arith)

mark_fits : (b : ℕ) → nat_le (token_bytes (mark_of b)) 1 ≡ true
mark_fits b = mark_has (λ t. nat_le (token_bytes t) 1 ≡ true) b refl refl refl refl refl refl refl refl refl

front_fits : (c : ℕ) (rest : List ℕ) → Fits (front (c ∷ rest))
front_fits c rest = front_has Fits c rest (λ ds all some. run_fits ds all some) (λ w some. word_fits w) (λ b some. leb-true (token_bytes (mark_of b)) 1 (mark_fits b))

text_fits : (text : List ℕ) (at skip : ℕ) → skip ≤ length text → bytes_in (plain_tokens (tokens_from at skip text)) + skip ≤ length text
unfolding tokens_from
text_fits [] at skip h = omega arith
text_fits (c ∷ text) at (suc skip) h = omega (arith, text_fits text (at + 1) skip (omega arith))
text_fits (c ∷ text) at zero h =
    let bounds = front_bounded c text in
    let own : token_bytes (front (c ∷ text)).token ≤ length (front (c ∷ text)).bytes = front_fits c text bounds.low in
    let more = text_fits text (at + 1) (length (front (c ∷ text)).bytes - 1) (omega (arith, bounds.high)) in
    let space = text_fits text (at + 1) 0 (omega arith) in
    cond_both (eqb c 32) (tokens_from (at + 1) 0 text) (front_at at (c ∷ text) ∷ tokens_from (at + 1) (length (front (c ∷ text)).bytes - 1) text) (λ ps. bytes_in (plain_tokens ps) + 0 ≤ length (c ∷ text)) (λ e. omega arith) (λ e. omega arith)

-- ---- the fewest bytes of sums

-- how many bytes are written, without spaces and leading zeros
abbrev bytes : Measure
bytes = record {
  of_number = λ n. number_bytes n;
  of_name = λ w. length w;
  joined = λ a b. a + b + 1;
  called = λ a b. a + b + 6;
  enclosed = λ a. a + 2;
  joined_rises = λ a b c d h k. omega arith;
  called_rises = λ a b c d h k. omega arith;
  enclosed_rises = λ a b h. omega arith;
  enclosed_more = λ a. omega arith;
}

mutual
  bytes_sum : (s : Sum) → bytes_in (sum_tokens s) ≡ sum_measure bytes s
  bytes_sum (one_term t) = bytes_term t
  bytes_sum (sum_of s op t) = omega (arith, bytes_in-append (sum_tokens s) (additive op ∷ term_tokens t), bytes_sum s, bytes_term t)

  bytes_term : (t : Term) → bytes_in (term_tokens t) ≡ term_measure bytes t
  bytes_term (one_factor f) = bytes_factor f
  bytes_term (product_of t op f) = omega (arith, bytes_in-append (term_tokens t) (multiplicative op ∷ factor_tokens f), bytes_term t, bytes_factor f)

  bytes_factor : (f : Factor) → bytes_in (factor_tokens f) ≡ factor_measure bytes f
  bytes_factor (literal n) = omega arith
  bytes_factor (named w) = omega arith
  bytes_factor (group s) = omega (arith, bytes_in-append (sum_tokens s) (right_paren ∷ []), bytes_sum s)
  bytes_factor (call op a b) = omega (arith, bytes_in-append (sum_tokens a) (comma ∷ (sum_tokens b ++ right_paren ∷ [])), bytes_in-append (sum_tokens b) (right_paren ∷ []), bytes_sum a, bytes_sum b)

-- ---- what is printed has no more

number_is : (n : ℕ) → n < 2 ^ 63 → length (decimal n) ≡ number_bytes n
number_is n h = cond_both (nat_lt n (2 ^ 63)) (length (decimal n)) 0 (λ m. length (decimal n) ≡ m) (λ e. refl) (λ e. absurd (omega (arith, ltb-false n (2 ^ 63) e)))

length-operand : (asked : ℕ) (t : NamedTree) → length (printed t) ≡ least bytes t → length (operand asked t) ≡ least_at bytes asked t
length-operand asked t h = choice (nat_lt (tightness t) asked)
  where
    choice : (b : Bool) → length (cond b (codes "(" ++ (printed t ++ codes ")")) (printed t)) ≡ cond b (least bytes t + 2) (least bytes t)
    choice true = omega (arith, length-append (printed t) (codes ")"))
    choice false = h

joined_length : (x y : List ℕ) (b : ℕ) {m n : ℕ} → length x ≡ m → length y ≡ n → length (x ++ ((b ∷ []) ++ y)) ≡ m + n + 1
joined_length x y b h k = omega (arith, length-append x (b ∷ y))

called_length : (x y : List ℕ) (a b c : ℕ) {m n : ℕ} → length x ≡ m → length y ≡ n → length ((a ∷ b ∷ c ∷ codes "(") ++ (x ++ (codes "," ++ (y ++ codes ")")))) ≡ m + n + 6
called_length x y a b c h k = omega (arith, length-append x (codes "," ++ (y ++ codes ")")), length-append y (codes ")"))

length-printed : (t : NamedTree) → Writable t → length (printed t) ≡ least bytes t
length-printed (tree.number (pos n)) h = number_is n h
length-printed (tree.number (negsuc n)) h = absurd h
length-printed (tree.name w) h = refl
length-printed (tree.binary Add a b) h = joined_length _ _ 43 (length-operand 0 a (length-printed a h.0)) (length-operand 1 b (length-printed b h.1))
length-printed (tree.binary Sub a b) h = joined_length _ _ 45 (length-operand 0 a (length-printed a h.0)) (length-operand 1 b (length-printed b h.1))
length-printed (tree.binary Mul a b) h = joined_length _ _ 42 (length-operand 1 a (length-printed a h.0)) (length-operand 2 b (length-printed b h.1))
length-printed (tree.binary Div a b) h = joined_length _ _ 47 (length-operand 1 a (length-printed a h.0)) (length-operand 2 b (length-printed b h.1))
length-printed (tree.binary Rem a b) h = joined_length _ _ 37 (length-operand 1 a (length-printed a h.0)) (length-operand 2 b (length-printed b h.1))
length-printed (tree.binary Min a b) h = called_length _ _ 109 105 110 (length-operand 0 a (length-printed a h.0)) (length-operand 0 b (length-printed b h.1))
length-printed (tree.binary Max a b) h = called_length _ _ 109 97 120 (length-operand 0 a (length-printed a h.0)) (length-operand 0 b (length-printed b h.1))

pub printed_shortest : (t : NamedTree) → Writable t → (text : List ℕ) → Spells text t → length (printed t) ≤ length text
printed_shortest t h text k =
    let mine : length (printed t) ≡ least_at bytes 0 t = sym (ap length (whole_operand t)) ∙ length-operand 0 t (length-printed t h) in
    let theirs : bytes_in (plain_tokens (tokens_of text)) ≡ sum_measure bytes k.sum = ap bytes_in (sym k.tokens_are) ∙ bytes_sum k.sum in
    omega (arith, spelled_least bytes text t k, text_fits text 0 0 (omega arith))
