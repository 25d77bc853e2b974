-- The tokens of a text that is written token by token.
use Rattle.std.proofs.Common.{◌≡◌, ℕ, ◌+◌, ◌-◌, ◌≤◌, zero, suc, List, [], ◌∷◌, ◌++◌, length, map, Bool, true, false, not, cond, eqb, ◌&&◌, ◌||◌, refl, sym, ap, ◌∙◌, append_assoc, length-append, arith}
use Rattle.std.proofs.lemmas.Bool.{and_parts, and_from}
use Rattle.std.proofs.lemmas.List.{drop_at}
use Rattle.std.proofs.lemmas.List.Folds.{list_all-append}
use Rattle.std.proofs.lemmas.List.Sums.{take_while-cons}
use Rattle.std.proofs.lemmas.Bool.Decides.{nat_tests}
use Rattle.std.specs.Prelude.{take_while}
use Rattle.std.specs.List.{list_all}
use Rattle.std.specs.Str.Parse.{digits_value}
use Rattle.param_expr.specs.Words.{is_digit, is_letter, is_word_byte}
use Rattle.param_expr.specs.Tokens.{Token, number, word_token, mark_of, Lexeme, Placed, front, tokens_from}
use Rattle.param_expr.specs.Parse.{is_large}
use Rattle.param_expr.specs.Print.{is_number, begins_well}
use Rattle.param_expr.proofs.Turning.{skipped, token_front}

-- ---- lexemes, without their places

abbrev pub lexeme_of : Placed → Lexeme
lexeme_of p = record { bytes = p.bytes; token = p.token }

abbrev pub lex : List ℕ → List Lexeme
lex text = map lexeme_of (tokens_from 0 0 text)

map_cond : (b : Bool) (x y z w : List Placed) → map lexeme_of x ≡ map lexeme_of z → map lexeme_of y ≡ map lexeme_of w → map lexeme_of (cond b x y) ≡ map lexeme_of (cond b z w)
map_cond true x y z w h k = h
map_cond false x y z w h k = k

place_free : (text : List ℕ) (skip a b : ℕ) → map lexeme_of (tokens_from a skip text) ≡ map lexeme_of (tokens_from b skip text)
unfolding tokens_from
place_free [] skip a b = refl
place_free (c ∷ text) (suc skip) a b = place_free text skip (a + 1) (b + 1)
place_free (c ∷ text) zero a b =
    map_cond (eqb c 32) _ _ _ _ (place_free text 0 (a + 1) (b + 1))
    (ap (λ ls. (front (c ∷ text)) ∷ ls) (place_free text (length (front (c ∷ text)).bytes - 1) (a + 1) (b + 1)))

-- one token at the front
lex_front : (c : ℕ) (w rest : List ℕ) (t : Token) → eqb c 32 ≡ false → front (c ∷ (w ++ rest)) ≡ record { bytes = c ∷ w; token = t } → lex (c ∷ (w ++ rest)) ≡ record { bytes = c ∷ w; token = t } ∷ lex rest
lex_front c w rest t h e =
    let n : length (front (c ∷ (w ++ rest))).bytes - 1 ≡ length w = ap (λ (l : Lexeme). length l.bytes - 1) e ∙ omega arith in
    let fits : length w ≤ length (w ++ rest) = simp length-append (omega arith) in
    let past : tokens_from (0 + 1) (length w) (w ++ rest) ≡ tokens_from (0 + 1 + length w) 0 rest = skipped (0 + 1) (length w) (w ++ rest) fits ∙ ap (tokens_from (0 + 1 + length w) 0) (drop_at w rest (length w) refl) in
    ap (map lexeme_of) (token_front 0 c (w ++ rest) h)
    ∙ ap (λ l. l ∷ map lexeme_of (tokens_from (0 + 1) (length (front (c ∷ (w ++ rest))).bytes - 1) (w ++ rest))) e
    ∙ ap (λ k. record { bytes = c ∷ w; token = t } ∷ map lexeme_of (tokens_from (0 + 1) k (w ++ rest))) n
    ∙ ap (λ ps. record { bytes = c ∷ w; token = t } ∷ map lexeme_of ps) past
    ∙ ap (λ ls. record { bytes = c ∷ w; token = t } ∷ ls) (place_free rest 0 (0 + 1 + length w) 0)

-- ---- runs, and what may follow them

abbrev Stops : (ℕ → Bool) → List ℕ → Type 0
Stops p [] = Unit {0}
Stops p (b ∷ rest) = p b ≡ false

-- no letter, digit or `_` comes next
abbrev pub Apart : List ℕ → Type 0
Apart rest = Stops is_word_byte rest

or_false : (a b : Bool) → (a || b) ≡ false → (a ≡ false) × (b ≡ false)
or_false true b h = absurd cc
or_false false b h = (refl, h)

stops_digits : (rest : List ℕ) → Apart rest → Stops is_digit rest
stops_digits [] h = tt
stops_digits (b ∷ rest) h = (or_false (is_letter b) (is_digit b) h).1

run_is : (p : ℕ → Bool) (w rest : List ℕ) → list_all p w ≡ true → Stops p rest → take_while p (w ++ rest) ≡ w
run_is p [] [] h k = refl
run_is p [] (b ∷ rest) h k = take_while-cons p b rest ∙ rw k refl
run_is p (x ∷ w) rest h k =
    let parts = and_parts (p x) (list_all p w) h in
    take_while-cons p x (w ++ rest) ∙ ap (λ b. cond b (x ∷ take_while p (w ++ rest)) []) parts.0 ∙ ap (λ ys. x ∷ ys) (run_is p w rest parts.1 k)

digit_no_space : (c : ℕ) → is_digit c ≡ true → eqb c 32 ≡ false
digit_no_space c h = grind (arith, nat_tests)

letter_no_space : (c : ℕ) → is_letter c ≡ true → eqb c 32 ≡ false
letter_no_space c h = grind (arith, nat_tests)

letter_no_digit : (c : ℕ) → is_letter c ≡ true → is_digit c ≡ false
letter_no_digit c h = grind (arith, nat_tests)

abbrev pub digits_lexeme : List ℕ → Lexeme
digits_lexeme ds = record { bytes = ds; token = number (digits_value 10 ds) }

abbrev pub word_lexeme : List ℕ → Lexeme
word_lexeme w = record { bytes = w; token = word_token w }

abbrev pub mark_lexeme : ℕ → Lexeme
mark_lexeme b = record { bytes = b ∷ []; token = mark_of b }

cond_first : (b : Bool) (x y : Lexeme) → b ≡ true → cond b x y ≡ x
cond_first true x y h = refl
cond_first false x y h = absurd cc

cond_second : (b : Bool) (x y : Lexeme) → b ≡ false → cond b x y ≡ y
cond_second true x y h = absurd cc
cond_second false x y h = refl

front_is : (c : ℕ) (rest : List ℕ) → front (c ∷ rest) ≡ cond (is_digit c) (digits_lexeme (take_while is_digit (c ∷ rest))) (cond (is_letter c) (word_lexeme (take_while is_word_byte (c ∷ rest))) (mark_lexeme c))
front_is c rest = refl

front_digits : (c : ℕ) (w rest : List ℕ) → list_all is_digit (c ∷ w) ≡ true → Apart rest → front (c ∷ (w ++ rest)) ≡ digits_lexeme (c ∷ w)
front_digits c w rest h k =
    let parts = and_parts (is_digit c) (list_all is_digit w) h in
    front_is c (w ++ rest) ∙ cond_first (is_digit c) _ _ parts.0 ∙ ap digits_lexeme (run_is is_digit (c ∷ w) rest h (stops_digits rest k))

front_word : (c : ℕ) (w rest : List ℕ) → is_letter c ≡ true → list_all is_word_byte (c ∷ w) ≡ true → Apart rest → front (c ∷ (w ++ rest)) ≡ word_lexeme (c ∷ w)
front_word c w rest l h k =
    front_is c (w ++ rest) ∙ cond_second (is_digit c) _ _ (letter_no_digit c l) ∙ cond_first (is_letter c) _ _ l ∙ ap word_lexeme (run_is is_word_byte (c ∷ w) rest h k)

-- ---- what is written, token by token

abbrev pub is_fine : Lexeme → Bool
is_fine l = (not (is_number l.token) || begins_well l.bytes) && not (is_large l.token)

abbrev pub no_space : ℕ → Bool
no_space b = not (eqb b 32)

-- The text is these tokens, whatever comes apart from it. Its numbers are small and have no leading zeros, and it has no spaces.
pub record Writes (text : List ℕ) (tokens : List Token) : Type 0 where
  pub lexemes : List Lexeme
  pub lexes : (rest : List ℕ) → Apart rest → lex (text ++ rest) ≡ lexemes ++ lex rest
  pub tokens_are : map (λ (l : Lexeme). l.token) lexemes ≡ tokens
  pub fine : list_all is_fine lexemes ≡ true
  pub solid : list_all no_space text ≡ true

-- a byte that is a token by itself
pub record Mark (m : ℕ) (k : Token) : Type 0 where
  pub lexes : (rest : List ℕ) → lex (m ∷ rest) ≡ record { bytes = m ∷ []; token = k } ∷ lex rest
  pub apart : is_word_byte m ≡ false
  pub fine : is_fine (record { bytes = m ∷ []; token = k }) ≡ true
  pub solid : no_space m ≡ true

pub mark : (m : ℕ) (k : Token) → ((rest : List ℕ) → front (m ∷ rest) ≡ record { bytes = m ∷ []; token = k }) → eqb m 32 ≡ false → is_word_byte m ≡ false → is_fine (record { bytes = m ∷ []; token = k }) ≡ true → no_space m ≡ true → Mark m k
mark m k is space apart fine solid = record { lexes = λ rest. lex_front m [] rest k space (is rest); apart = apart; fine = fine; solid = solid }

-- ---- digits, words and what is made of them

all_no_space : (p : ℕ → Bool) → ((b : ℕ) → p b ≡ true → no_space b ≡ true) → (bytes : List ℕ) → list_all p bytes ≡ true → list_all no_space bytes ≡ true
all_no_space p h [] k = refl
all_no_space p h (b ∷ bytes) k =
    let parts = and_parts (p b) (list_all p bytes) k in
    ap (λ x. x && list_all no_space bytes) (h b parts.0) ∙ all_no_space p h bytes parts.1

digit_solid : (b : ℕ) → is_digit b ≡ true → no_space b ≡ true
digit_solid b h = grind (arith, nat_tests)

word_solid : (b : ℕ) → is_word_byte b ≡ true → no_space b ≡ true
word_solid b h = grind (arith, nat_tests)

pub writes_digits : (c : ℕ) (w : List ℕ) → list_all is_digit (c ∷ w) ≡ true → begins_well (c ∷ w) ≡ true → is_large (number (digits_value 10 (c ∷ w))) ≡ false → Writes (c ∷ w) (number (digits_value 10 (c ∷ w)) ∷ [])
writes_digits c w h well small = record {
  lexemes = digits_lexeme (c ∷ w) ∷ [];
  lexes = λ rest apart. lex_front c w rest (number (digits_value 10 (c ∷ w))) (digit_no_space c (and_parts (is_digit c) (list_all is_digit w) h).0) (front_digits c w rest h apart);
  tokens_are = refl;
  fine = rw (well, small) refl;
  solid = all_no_space is_digit digit_solid (c ∷ w) h;
}

fine_word : (t : Token) (bytes : List ℕ) → is_number t ≡ false → is_large t ≡ false → list_all is_fine (record { bytes = bytes; token = t } ∷ []) ≡ true
fine_word t bytes h k = rw (h, k) refl

pub writes_word : (c : ℕ) (w : List ℕ) (t : Token) → is_letter c ≡ true → list_all is_word_byte (c ∷ w) ≡ true → word_token (c ∷ w) ≡ t → is_number t ≡ false → is_large t ≡ false → Writes (c ∷ w) (t ∷ [])
writes_word c w t l h is plain small = record {
  lexemes = record { bytes = c ∷ w; token = t } ∷ [];
  lexes = λ rest apart. lex_front c w rest t (letter_no_space c l) (front_word c w rest l h apart ∙ ap (λ k. let x : Lexeme = record { bytes = c ∷ w; token = k } in x) is);
  tokens_are = refl;
  fine = fine_word t (c ∷ w) plain small;
  solid = all_no_space is_word_byte word_solid (c ∷ w) h;
}

mark_apart : (m : ℕ) (k : Token) (rest : List ℕ) → Mark m k → Apart (m ∷ rest)
mark_apart m k rest h = h.apart

map-append : (a b : List Lexeme) → map (λ (l : Lexeme). l.token) (a ++ b) ≡ map (λ (l : Lexeme). l.token) a ++ map (λ (l : Lexeme). l.token) b
map-append [] b = refl
map-append (l ∷ a) b = ap (λ ts. l.token ∷ ts) (map-append a b)

-- a text before a mark, and a text after it
pub writes_marked : (a : List ℕ) (s : List Token) (m : ℕ) (k : Token) (b : List ℕ) (t : List Token) → Writes a s → Mark m k → Writes b t → Writes (a ++ (m ∷ b)) (s ++ (k ∷ t))
writes_marked a s m k b t h mk j = record {
  lexemes = h.lexemes ++ (record { bytes = m ∷ []; token = k } ∷ j.lexemes);
  lexes = λ rest apart.
      ap lex (append_assoc a (m ∷ b) rest)
      ∙ h.lexes (m ∷ (b ++ rest)) mk.apart
      ∙ ap (λ ls. h.lexemes ++ ls) (mk.lexes (b ++ rest) ∙ ap (λ ls. record { bytes = m ∷ []; token = k } ∷ ls) (j.lexes rest apart))
      ∙ sym (append_assoc h.lexemes (record { bytes = m ∷ []; token = k } ∷ j.lexemes) (lex rest));
  tokens_are = map-append h.lexemes (record { bytes = m ∷ []; token = k } ∷ j.lexemes) ∙ ap (λ ts. ts ++ (k ∷ map (λ (l : Lexeme). l.token) j.lexemes)) h.tokens_are ∙ ap (λ ts. s ++ (k ∷ ts)) j.tokens_are;
  fine = list_all-append is_fine h.lexemes (record { bytes = m ∷ []; token = k } ∷ j.lexemes) ∙ and_from _ _ h.fine (and_from _ _ mk.fine j.fine);
  solid = list_all-append no_space a (m ∷ b) ∙ and_from _ _ h.solid (and_from _ _ mk.solid j.solid);
}

pub writes_nothing : Writes [] []
writes_nothing = record { lexemes = []; lexes = λ rest apart. refl; tokens_are = refl; fine = refl; solid = refl }

-- a mark, and a text after it
pub writes_after : (m : ℕ) (k : Token) (b : List ℕ) (t : List Token) → Mark m k → Writes b t → Writes (m ∷ b) (k ∷ t)
writes_after m k b t mk j = writes_marked [] [] m k b t writes_nothing mk j

-- a text, and a mark after it
pub writes_before : (a : List ℕ) (s : List Token) (m : ℕ) (k : Token) → Writes a s → Mark m k → Writes (a ++ (m ∷ [])) (s ++ (k ∷ []))
writes_before a s m k h mk = writes_marked a s m k [] [] h mk writes_nothing
