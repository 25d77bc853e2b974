-- The tokens of what is printed of a tree.
use Rattle.std.proofs.Common.{◌≡◌, ℕ, ◌≤◌, List, [], ◌∷◌, ◌++◌, map, Bool, true, false, not, cond, ◌||◌, Option, Some, None, refl, sym, ap, subst, ◌∙◌, arith}
use Rattle.std.proofs.lemmas.Bool.{and_parts, and_from}
use Rattle.std.proofs.lemmas.Bool.Decides.{nat_tests}
use Rattle.std.proofs.lemmas.List.{append-nil}
use Rattle.std.specs.Prelude.{nat_lt}
use Rattle.std.specs.List.{list_all}
use Rattle.param_expr.specs.Named.{NamedTree}
use Rattle.param_expr.specs.Tokens.{Token, Lexeme, Placed, tokens_from, tokens_of, plain_tokens}
use Rattle.param_expr.specs.Grammar.{Sum, sum_tokens, Spells}
use Rattle.param_expr.specs.Parse.{is_large, first_large}
use Rattle.param_expr.specs.Print.{tightness, printed, operand, has_no_leading_zero, has_no_leading_zeros, has_no_spaces, is_number, begins_well}
use Rattle.param_expr.proofs.Lexed.{lex, lexeme_of, Writes, is_fine}
use Rattle.param_expr.proofs.Measures.{Measure, sum_measure, least_at}
use Rattle.param_expr.proofs.Derived.{Writable, Derivation, derivation}
use Rattle.param_expr.proofs.Least.{spelled_least}

-- ---- a whole text that is written token by token

lex_nothing : lex [] ≡ []
unfolding tokens_from
lex_nothing = refl

lex_whole : (text : List ℕ) (tokens : List Token) (w : Writes text tokens) → lex text ≡ w.lexemes
lex_whole text tokens w = ap lex (sym (append-nil text)) ∙ w.lexes [] tt ∙ ap (λ ls. w.lexemes ++ ls) lex_nothing ∙ append-nil w.lexemes

plain_lexemes : (placed : List Placed) → plain_tokens placed ≡ map (λ (l : Lexeme). l.token) (map lexeme_of placed)
plain_lexemes [] = refl
plain_lexemes (p ∷ rest) = ap (λ ts. p.token ∷ ts) (plain_lexemes rest)

pub plain_whole : (text : List ℕ) (tokens : List Token) → Writes text tokens → plain_tokens (tokens_of text) ≡ tokens
plain_whole text tokens w = plain_lexemes (tokens_of text) ∙ ap (map (λ (l : Lexeme). l.token)) (lex_whole text tokens w) ∙ w.tokens_are

fine_zeros : (placed : List Placed) → list_all is_fine (map lexeme_of placed) ≡ true → list_all has_no_leading_zero placed ≡ true
fine_zeros [] h = refl
fine_zeros (p ∷ rest) h =
    let parts = and_parts (is_fine (lexeme_of p)) (list_all is_fine (map lexeme_of rest)) h in
    let here = and_parts (not (is_number p.token) || begins_well p.bytes) (not (is_large p.token)) parts.0 in
    and_from _ _ here.0 (fine_zeros rest parts.1)

cond_small : (b : Bool) (x : ℕ) (o : Option ℕ) → not b ≡ true → cond b (Some x) o ≡ o
cond_small true x o h = absurd cc
cond_small false x o h = refl

fine_small : (placed : List Placed) → list_all is_fine (map lexeme_of placed) ≡ true → first_large placed ≡ None
fine_small [] h = refl
fine_small (p ∷ rest) h =
    let parts = and_parts (is_fine (lexeme_of p)) (list_all is_fine (map lexeme_of rest)) h in
    let here = and_parts (not (is_number p.token) || begins_well p.bytes) (not (is_large p.token)) parts.0 in
    cond_small (is_large p.token) p.at (first_large rest) here.1 ∙ fine_small rest parts.1

fine_whole : (text : List ℕ) (tokens : List Token) → Writes text tokens → list_all is_fine (map lexeme_of (tokens_of text)) ≡ true
fine_whole text tokens w = ap (list_all is_fine) (lex_whole text tokens w) ∙ w.fine

-- ---- the text of a tree

loose_none : (has : ℕ) (text other : List ℕ) → cond (nat_lt has 0) other text ≡ text
loose_none has text other = grind (arith, nat_tests)

pub whole_operand : (t : NamedTree) → operand 0 t ≡ printed t
whole_operand t = loose_none (tightness t) (printed t) _

written : (t : NamedTree) (d : Derivation t) → Writes (printed t) (sum_tokens d.sum)
written t d = subst (λ text. Writes text (sum_tokens d.sum)) (whole_operand t) d.sum_written

pub printed_spells : (t : NamedTree) → Writable t → Spells (printed t) t
printed_spells t h =
    let d = derivation t h in
    record { sum = d.sum; tokens_are = sym (plain_whole (printed t) (sum_tokens d.sum) (written t d)); tree_is = d.sum_is }

pub printed_zeros : (t : NamedTree) → Writable t → has_no_leading_zeros (printed t) ≡ true
printed_zeros t h = let d = derivation t h in fine_zeros (tokens_of (printed t)) (fine_whole (printed t) (sum_tokens d.sum) (written t d))

pub printed_small : (t : NamedTree) → Writable t → first_large (tokens_of (printed t)) ≡ None
printed_small t h = let d = derivation t h in fine_small (tokens_of (printed t)) (fine_whole (printed t) (sum_tokens d.sum) (written t d))

pub printed_spaces : (t : NamedTree) → Writable t → has_no_spaces (printed t) ≡ true
printed_spaces t h = let d = derivation t h in (written t d).solid

-- where the tokens of sums are measured, no text of a tree measures less than what is printed of it
pub printed_least : (m : Measure) (of_tokens : List Token → ℕ) → ((s : Sum) → of_tokens (sum_tokens s) ≡ sum_measure m s) → (t : NamedTree) → Writable t → (other : List ℕ) → Spells other t → of_tokens (plain_tokens (tokens_of (printed t))) ≤ of_tokens (plain_tokens (tokens_of other))
printed_least m of_tokens is t h other k =
    let d = derivation t h in
    let mine : of_tokens (plain_tokens (tokens_of (printed t))) ≡ least_at m 0 t = ap of_tokens (plain_whole (printed t) (sum_tokens d.sum) (written t d)) ∙ is d.sum ∙ d.sum_measured m in
    let theirs : of_tokens (plain_tokens (tokens_of other)) ≡ sum_measure m k.sum = ap of_tokens (sym k.tokens_are) ∙ is k.sum in
    omega (arith, spelled_least m other t k)
