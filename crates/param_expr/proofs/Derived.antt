-- What is printed of a tree is spelled by it.
use Rattle.std.proofs.Common.{◌≡◌, ℕ, ◌<◌, ◌^◌, zero, suc, List, [], ◌∷◌, ◌++◌, length, get_or, Bool, true, false, not, cond, eqb, ◌&&◌, ◌||◌, pos, negsuc, refl, sym, ap, ap₂, subst, ◌∙◌, arith}
use Rattle.std.proofs.lemmas.Bool.Decides.{nat_tests}
use Rattle.std.proofs.lemmas.Fmt.{decimal_nonempty, first_decimal, decimal_digit, digits_decimal, digits_value-decimal}
use Rattle.std.specs.Prelude.{codes, nat_le, decimal}
use Rattle.std.specs.List.{list_all}
use Rattle.std.specs.Str.{bytes_eq}
use Rattle.std.specs.Str.Parse.{digits_value}
use Rattle.param_expr.specs.Named as tree
use Rattle.param_expr.specs.Named.{NamedTree}
use Rattle.param_expr.specs.Words.{is_digit, is_letter, is_word_byte, is_name, IsName, starts_with_letter, is_reserved}
use Rattle.param_expr.specs.Tokens.{Token, number, name, additive, multiplicative, function, left_paren, right_paren, comma, other, word_token}
use Rattle.param_expr.specs.Grammar.{Sum, Term, Factor, one_term, sum_of, one_factor, product_of, literal, named, group, call, sum_tokens, term_tokens, factor_tokens, sum_tree, term_tree, factor_tree}
use Rattle.param_expr.specs.Parse.{is_large}
use Rattle.param_expr.specs.Print.{level_of, tightness, printed, operand, operand_text, begins_well}
use Rattle.param_expr.specs.declared.op.Op.{Op}
use Rattle.param_expr.specs.declared.op.Op.TheVariants.{Add, Sub, Mul, Div, Rem, Min, Max}
use Rattle.param_expr.proofs.Measures.{Measure, sum_measure, term_measure, factor_measure, placed, least, least_at}
use Rattle.param_expr.proofs.Numerals.{own}
use Rattle.param_expr.proofs.Lexed.{Writes, Mark, mark, writes_digits, writes_word, writes_marked, writes_after, writes_before}

-- ---- what can be written

abbrev pub Writable : NamedTree → Type 0
Writable (tree.number (pos n)) = n < 2 ^ 63
Writable (tree.number (negsuc n)) = ⊥
Writable (tree.name w) = IsName w
Writable (tree.binary op a b) = Writable a × Writable b

-- ---- a tree as a sum, a term and a factor, each with its text

pub record Derivation (t : NamedTree) : Type 0 where
  pub sum : Sum
  pub term : Term
  pub factor : Factor
  pub sum_is : sum_tree sum ≡ t
  pub term_is : term_tree term ≡ t
  pub factor_is : factor_tree factor ≡ t
  pub sum_written : Writes (operand 0 t) (sum_tokens sum)
  pub term_written : Writes (operand 1 t) (term_tokens term)
  pub factor_written : Writes (operand 2 t) (factor_tokens factor)
  pub sum_measured : (m : Measure) → sum_measure m sum ≡ least_at m 0 t
  pub term_measured : (m : Measure) → term_measure m term ≡ least_at m 1 t
  pub factor_measured : (m : Measure) → factor_measure m factor ≡ least_at m 2 t

written_at : (t : NamedTree) (has : ℕ) (asked : ℕ) (tokens : List Token) → tightness t ≡ has → Writes (operand_text asked has (printed t)) tokens → Writes (operand asked t) tokens
written_at t has asked tokens e h = subst (λ k. Writes (operand_text asked k (printed t)) tokens) (sym e) h

measured_at : (m : Measure) (t : NamedTree) (has asked n : ℕ) → tightness t ≡ has → n ≡ placed m asked has (least m t) → n ≡ least_at m asked t
measured_at m t has asked n e h = h ∙ ap (λ k. placed m asked k (least m t)) (sym e)

paren_open : Mark 40 left_paren
paren_open = mark 40 left_paren (λ rest. refl) refl refl refl refl

paren_close : Mark 41 right_paren
paren_close = mark 41 right_paren (λ rest. refl) refl refl refl refl

in_parens : (text : List ℕ) (tokens : List Token) → Writes text tokens → Writes (codes "(" ++ (text ++ codes ")")) (left_paren ∷ (tokens ++ right_paren ∷ []))
in_parens text tokens h = writes_after 40 left_paren (text ++ (41 ∷ [])) (tokens ++ right_paren ∷ []) paren_open (writes_before text tokens 41 right_paren h paren_close)

from_factor : (t : NamedTree) (f : Factor) → factor_tree f ≡ t → tightness t ≡ 2 → Writes (printed t) (factor_tokens f) → ((m : Measure) → factor_measure m f ≡ least m t) → Derivation t
from_factor t f is e h n =
    record {
      sum = one_term (one_factor f);
      term = one_factor f;
      factor = f;
      sum_is = is;
      term_is = is;
      factor_is = is;
      sum_written = written_at t 2 0 (factor_tokens f) e h;
      term_written = written_at t 2 1 (factor_tokens f) e h;
      factor_written = written_at t 2 2 (factor_tokens f) e h;
      sum_measured = λ m. measured_at m t 2 0 _ e (n m);
      term_measured = λ m. measured_at m t 2 1 _ e (n m);
      factor_measured = λ m. measured_at m t 2 2 _ e (n m);
    }

from_term : (t : NamedTree) (u : Term) → term_tree u ≡ t → tightness t ≡ 1 → Writes (printed t) (term_tokens u) → ((m : Measure) → term_measure m u ≡ least m t) → Derivation t
from_term t u is e h n =
    record {
      sum = one_term u;
      term = u;
      factor = group (one_term u);
      sum_is = is;
      term_is = is;
      factor_is = is;
      sum_written = written_at t 1 0 (term_tokens u) e h;
      term_written = written_at t 1 1 (term_tokens u) e h;
      factor_written = written_at t 1 2 _ e (in_parens (printed t) (term_tokens u) h);
      sum_measured = λ m. measured_at m t 1 0 _ e (n m);
      term_measured = λ m. measured_at m t 1 1 _ e (n m);
      factor_measured = λ m. measured_at m t 1 2 _ e (ap m.enclosed (n m));
    }

from_sum : (t : NamedTree) (s : Sum) → sum_tree s ≡ t → tightness t ≡ 0 → Writes (printed t) (sum_tokens s) → ((m : Measure) → sum_measure m s ≡ least m t) → Derivation t
from_sum t s is e h n =
    record {
      sum = s;
      term = one_factor (group s);
      factor = group s;
      sum_is = is;
      term_is = is;
      factor_is = is;
      sum_written = written_at t 0 0 (sum_tokens s) e h;
      term_written = written_at t 0 1 _ e (in_parens (printed t) (sum_tokens s) h);
      factor_written = written_at t 0 2 _ e (in_parens (printed t) (sum_tokens s) h);
      sum_measured = λ m. measured_at m t 0 0 _ e (n m);
      term_measured = λ m. measured_at m t 0 1 _ e (ap m.enclosed (n m));
      factor_measured = λ m. measured_at m t 0 2 _ e (ap m.enclosed (n m));
    }

-- ---- operations

derived_sum : (op : Op) (m : ℕ) (a b : NamedTree) → Mark m (additive op) → level_of op ≡ 0 → printed (tree.binary op a b) ≡ operand 0 a ++ (m ∷ operand 1 b) → ((k : Measure) → least k (tree.binary op a b) ≡ k.joined (least_at k 0 a) (least_at k 1 b)) → Derivation a → Derivation b → Derivation (tree.binary op a b)
derived_sum op m a b mk level text need da db =
    from_sum (tree.binary op a b) (sum_of da.sum op db.term) (ap₂ (tree.binary op) da.sum_is db.term_is) level
    (subst (λ t. Writes t (sum_tokens da.sum ++ additive op ∷ term_tokens db.term)) (sym text) (writes_marked (operand 0 a) (sum_tokens da.sum) m (additive op) (operand 1 b) (term_tokens db.term) da.sum_written mk db.term_written))
    (λ k. ap₂ k.joined (da.sum_measured k) (db.term_measured k) ∙ sym (need k))

derived_term : (op : Op) (m : ℕ) (a b : NamedTree) → Mark m (multiplicative op) → level_of op ≡ 1 → printed (tree.binary op a b) ≡ operand 1 a ++ (m ∷ operand 2 b) → ((k : Measure) → least k (tree.binary op a b) ≡ k.joined (least_at k 1 a) (least_at k 2 b)) → Derivation a → Derivation b → Derivation (tree.binary op a b)
derived_term op m a b mk level text need da db =
    from_term (tree.binary op a b) (product_of da.term op db.factor) (ap₂ (tree.binary op) da.term_is db.factor_is) level
    (subst (λ t. Writes t (term_tokens da.term ++ multiplicative op ∷ factor_tokens db.factor)) (sym text) (writes_marked (operand 1 a) (term_tokens da.term) m (multiplicative op) (operand 2 b) (factor_tokens db.factor) da.term_written mk db.factor_written))
    (λ k. ap₂ k.joined (da.term_measured k) (db.factor_measured k) ∙ sym (need k))

comma_mark : Mark 44 comma
comma_mark = mark 44 comma (λ rest. refl) refl refl refl refl

abbrev call_text : List ℕ → List ℕ → List ℕ → List ℕ
call_text w x y = w ++ (40 ∷ (x ++ (44 ∷ (y ++ (41 ∷ [])))))

derived_call : (op : Op) (w : List ℕ) (a b : NamedTree) → Writes w (function op ∷ []) → level_of op ≡ 2 → printed (tree.binary op a b) ≡ call_text w (operand 0 a) (operand 0 b) → ((k : Measure) → least k (tree.binary op a b) ≡ k.called (least_at k 0 a) (least_at k 0 b)) → Derivation a → Derivation b → Derivation (tree.binary op a b)
derived_call op w a b wk level text need da db =
    from_factor (tree.binary op a b) (call op da.sum db.sum) (ap₂ (tree.binary op) da.sum_is db.sum_is) level
    (subst (λ t. Writes t (factor_tokens (call op da.sum db.sum))) (sym text)
    (writes_marked w (function op ∷ []) 40 left_paren _ _ wk paren_open
    (writes_marked (operand 0 a) (sum_tokens da.sum) 44 comma _ _ da.sum_written comma_mark
    (writes_before (operand 0 b) (sum_tokens db.sum) 41 right_paren db.sum_written paren_close))))
    (λ k. ap₂ k.called (da.sum_measured k) (db.sum_measured k) ∙ sym (need k))

-- ---- numbers and names

own_zero : (n c d : ℕ) (w : List ℕ) → n < 2 ^ 64 → decimal n ≡ c ∷ d ∷ w → not (eqb c 48) ≡ true
own_zero zero c d w h e = absurd (let one = sym (decimal_digit 0 (omega arith)) ∙ e in let long = ap length one in omega arith)
own_zero (suc n) c d w h e =
    let high : 48 < get_or (decimal (suc n)) 0 0 = first_decimal (suc n) (omega arith) h in
    let first : get_or (decimal (suc n)) 0 0 ≡ c = ap (λ (bs : List ℕ). get_or bs 0 0) e in
    let over : 48 < c = omega arith in
    above c over
  where
    above : (c : ℕ) → 48 < c → not (eqb c 48) ≡ true
    above c h = grind (arith, nat_tests)

begins_decimal : (n c : ℕ) (w : List ℕ) → n < 2 ^ 64 → decimal n ≡ c ∷ w → begins_well (c ∷ w) ≡ true
begins_decimal n c [] h e = refl
begins_decimal n c (d ∷ w) h e = own_zero n c d w h e

not_over : (n : ℕ) → n < 2 ^ 63 → is_large (number n) ≡ false
not_over n h = grind (arith, nat_tests)

written_number : (n : ℕ) (ds : List ℕ) → n < 2 ^ 63 → decimal n ≡ ds → Writes ds (number n ∷ [])
written_number n [] h e = absurd (let some = decimal_nonempty n (omega arith) in let none = ap length e in omega arith)
written_number n (c ∷ w) h e =
    let fits : n < 2 ^ 64 = omega arith in
    let value : digits_value 10 (c ∷ w) ≡ n = ap (digits_value 10) (sym e) ∙ digits_value-decimal own n fits in
    let all : list_all is_digit (c ∷ w) ≡ true = ap (list_all is_digit) (sym e) ∙ digits_decimal own n fits in
    subst (λ k. Writes (c ∷ w) (number k ∷ [])) value (writes_digits c w all (begins_decimal n c w fits e) (ap (λ k. is_large (number k)) value ∙ not_over n h))

record NameParts (w : List ℕ) : Type 0 where
  starts : starts_with_letter w ≡ true
  all : list_all is_word_byte w ≡ true
  free : is_reserved w ≡ false

parts_of : (a b c d : Bool) → (a && b && c && not d) ≡ true → (a ≡ true) × (b ≡ true) × (d ≡ false)
parts_of true true true false h = (refl, refl, refl)
parts_of true true true true h = absurd cc
parts_of true true false d h = absurd cc
parts_of true false c d h = absurd cc
parts_of false b c d h = absurd cc

neither : (a b : Bool) → (a || b) ≡ false → (a ≡ false) × (b ≡ false)
neither false b h = (refl, h)
neither true b h = absurd cc

chosen : (a b c : Bool) (x y z w : Token) → a ≡ false → b ≡ false → c ≡ true → cond a x (cond b y (cond c z w)) ≡ z
chosen a b c x y z w h k j = rw (h, k, j) refl

named_token : (w : List ℕ) → is_name w ≡ true → is_reserved w ≡ false → word_token w ≡ name w
named_token w h free =
    let no = neither (bytes_eq w (codes "min")) (bytes_eq w (codes "max")) free in
    chosen (bytes_eq w (codes "min")) (bytes_eq w (codes "max")) (is_name w) (function Min) (function Max) (name w) other no.0 no.1 h

written_name : (w : List ℕ) → is_name w ≡ true → Writes w (name w ∷ [])
written_name [] h = absurd cc
written_name (c ∷ w) h =
    let parts = parts_of (is_letter c) (list_all is_word_byte (c ∷ w)) (nat_le (length (c ∷ w)) 64) (is_reserved (c ∷ w)) h in
    writes_word c w (name (c ∷ w)) parts.0 parts.1 (named_token (c ∷ w) h parts.2) refl refl

-- ---- each tree

min_written : Writes (codes "min") (function Min ∷ [])
min_written = writes_word 109 (105 ∷ 110 ∷ []) (function Min) refl refl refl refl refl

max_written : Writes (codes "max") (function Max ∷ [])
max_written = writes_word 109 (97 ∷ 120 ∷ []) (function Max) refl refl refl refl refl

pub derivation : (t : NamedTree) → Writable t → Derivation t
derivation (tree.number (pos n)) h = from_factor (tree.number (pos n)) (literal n) refl refl (written_number n (decimal n) h refl) (λ m. refl)
derivation (tree.number (negsuc n)) h = absurd h
derivation (tree.name w) h = from_factor (tree.name w) (named w) refl refl (written_name w h) (λ m. refl)
derivation (tree.binary Add a b) h = derived_sum Add 43 a b (mark 43 (additive Add) (λ rest. refl) refl refl refl refl) refl refl (λ m. refl) (derivation a h.0) (derivation b h.1)
derivation (tree.binary Sub a b) h = derived_sum Sub 45 a b (mark 45 (additive Sub) (λ rest. refl) refl refl refl refl) refl refl (λ m. refl) (derivation a h.0) (derivation b h.1)
derivation (tree.binary Mul a b) h = derived_term Mul 42 a b (mark 42 (multiplicative Mul) (λ rest. refl) refl refl refl refl) refl refl (λ m. refl) (derivation a h.0) (derivation b h.1)
derivation (tree.binary Div a b) h = derived_term Div 47 a b (mark 47 (multiplicative Div) (λ rest. refl) refl refl refl refl) refl refl (λ m. refl) (derivation a h.0) (derivation b h.1)
derivation (tree.binary Rem a b) h = derived_term Rem 37 a b (mark 37 (multiplicative Rem) (λ rest. refl) refl refl refl refl) refl refl (λ m. refl) (derivation a h.0) (derivation b h.1)
derivation (tree.binary Min a b) h = derived_call Min (codes "min") a b min_written refl refl (λ m. refl) (derivation a h.0) (derivation b h.1)
derivation (tree.binary Max a b) h = derived_call Max (codes "max") a b max_written refl refl (λ m. refl) (derivation a h.0) (derivation b h.1)
