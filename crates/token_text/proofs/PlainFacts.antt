-- A text without quotes, read byte by byte.
use Rattle.std.proofs.Common.{◌≡◌, ◌≢◌, ◌+◌, ◌-◌, ◌*◌, ◌<◌, ◌≤◌, ◌==◌, ◌||◌, ◌∷◌, ◌++◌, [], ℕ, zero, suc, ℤ, pos, neg_ℤ, not, ◌^◌, List, Bool, true, false, Option, Some, None, length, map, take, drop, get_or, refl, sym, ap, ◌∙◌, ◌⊎◌, inl, inr, append_assoc, arith}
use Rattle.std.proofs.lemmas.Bool.{and_from, and_parts, eqb-true, ne_eqb}
use Rattle.std.proofs.lemmas.Bool.Decides.{nat_tests}
use Rattle.std.proofs.lemmas.List.{append-nil, drop_all, drop-append-le, length-take-le, take-append-drop}
use Rattle.std.proofs.lemmas.List.Edits.{between_more, between_none, length-between}
use Rattle.std.proofs.lemmas.Slice.{between_is}
use Rattle.std.specs.Char.{digit_value, is_ascii_digit}
use Rattle.std.specs.List.{between, filter_map, position_from}
use Rattle.std.specs.Str.{all_ascii_digits}
use Rattle.std.specs.Str.Parse.{digits_value, digits_value_after}
use Rattle.csv.proofs.RoundTrip.{record-same, start-same}
use Rattle.csv.specs.Machine.{next_record}
use Rattle.csv.specs.Reading.{default_config, strip_bom}
use Rattle.csv.specs.declared.parser.State.TheVariants as st
use Rattle.token_text.specs.Plain.{EndsRecord, IsRow, ends_field, ends_line, field_at, first_at, record_at}
use Rattle.token_text.specs.Token.{are_digits, token_of}
use Rattle.token_text.specs.Streams.{is_no_token}
use Rattle.token_text.proofs.Digits.{digit_is, one_more}
use Rattle.token_text.proofs.TokenFacts.{token_of-minus, token_of-plain}

-- ---- tests

or_parts : (a b : Bool) → (a || b) ≡ false → (a ≡ false) × (b ≡ false)
or_parts true b e = cc e
or_parts false b e = (refl, e)

or_cases : (a b : Bool) → (a || b) ≡ true → (a ≡ true) ⊎ (b ≡ true)
or_cases true b e = inl refl
or_cases false b e = inr e

-- ---- the start of a text

no_mark : (a b c : ℕ) (rest : List ℕ) → (a == 239) ≡ false → strip_bom (a ∷ b ∷ c ∷ rest) ≡ a ∷ b ∷ c ∷ rest
unfolding strip_bom
no_mark a b c rest e = rw e refl

pub unmarked : (text : List ℕ) → (get_or text 0 0 == 239) ≡ false → strip_bom text ≡ text
unfolding strip_bom
unmarked [] e = refl
unmarked (a ∷ []) e = refl
unmarked (a ∷ b ∷ []) e = refl
unmarked (a ∷ b ∷ c ∷ rest) e = no_mark a b c rest e

pub unmarked_none : (text : List ℕ) → length text ≡ 0 → strip_bom text ≡ text
unfolding strip_bom
unmarked_none [] e = refl
unmarked_none (a ∷ rest) e = absurd (omega (arith, e))

-- ---- bytes

skip_feed : (rest : List ℕ) → next_record default_config st.StartRecord [] [] (10 ∷ rest) ≡ next_record default_config st.StartRecord [] [] rest
unfolding next_record
skip_feed rest = refl

skip_return : (rest : List ℕ) → next_record default_config st.StartRecord [] [] (13 ∷ rest) ≡ next_record default_config st.StartRecord [] [] rest
unfolding next_record
skip_return rest = refl

skip : (b : ℕ) (rest : List ℕ) → ends_line b ≡ true → next_record default_config st.StartRecord [] [] (b ∷ rest) ≡ next_record default_config st.StartRecord [] [] rest
skip b rest e = elim (or_cases (b == 10) (b == 13) e) [
  | inl feed ↦ ap (λ (c : ℕ). next_record default_config st.StartRecord [] [] (c ∷ rest)) (eqb-true b 10 feed) ∙ skip_feed rest
  | inr return ↦ ap (λ (c : ℕ). next_record default_config st.StartRecord [] [] (c ∷ rest)) (eqb-true b 13 return) ∙ skip_return rest
]

pub skip_at : (text : List ℕ) (from at : ℕ) → at < length text → ends_line (get_or text at 0) ≡ true → record_at text at ≡ record_at text from → record_at text (at + 1) ≡ record_at text from
skip_at text from at lt e so_far =
    sym (ap (next_record default_config st.StartRecord [] []) (one_more text at lt) ∙ skip (get_or text at 0) (drop (at + 1) text) e) ∙ so_far

-- a byte that only joins the field at hand
joined : (fields : List (List ℕ)) (field : List ℕ) (b : ℕ) (rest : List ℕ) → (b == 44) ≡ false → (b == 13) ≡ false → (b == 10) ≡ false
    → next_record default_config st.InField fields field (b ∷ rest) ≡ next_record default_config st.InField fields (field ++ (b ∷ [])) rest
unfolding next_record
joined fields field b rest comma return feed = rw (comma, return, feed) refl

-- a field so far, where its text is a part of the text
pub field_start : (text : List ℕ) (from : ℕ) → field_at [] (between from from text) text from ≡ field_at [] [] text from
field_start text from = ap (λ (f : List ℕ). field_at [] f text from) (between_none text from)

pub field_more : (text : List ℕ) (from at : ℕ) → from ≤ at → at < length text → ends_field (get_or text at 0) ≡ false → field_at [] (between from at text) text at ≡ field_at [] [] text from
    → field_at [] (between from (at + 1) text) text (at + 1) ≡ field_at [] [] text from
field_more text from at le lt e so_far =
    let b = get_or text at 0 in
    let comma = or_parts ((b == 44) || (b == 34)) (ends_line b) e in
    let marks = or_parts (b == 44) (b == 34) comma.0 in
    let ends = or_parts (b == 10) (b == 13) comma.1 in
    ap (λ (f : List ℕ). field_at [] f text (at + 1)) (between_more text from at 0 le lt)
    ∙ (sym (ap (next_record default_config st.InField [] (between from at text)) (one_more text at lt) ∙ joined [] (between from at text) b (drop (at + 1) text) marks.0 ends.1 ends.0) ∙ so_far)

-- ---- digits

no_mark_digit : (b : ℕ) → is_ascii_digit b ≡ true → ((b == 44) ≡ false) × ((b == 13) ≡ false) × ((b == 10) ≡ false) × ((b == 34) ≡ false)
no_mark_digit b h = (grind (arith, nat_tests), grind (arith, nat_tests), grind (arith, nat_tests), grind (arith, nat_tests))

pub digit_small : (b : ℕ) → is_ascii_digit b ≡ true → b - 48 ≤ 9
digit_small b h = grind (arith, nat_tests)

-- digits only join the field at hand
digits_run : (fields : List (List ℕ)) (field xs tail : List ℕ) → all_ascii_digits xs ≡ true
    → next_record default_config st.InField fields field (xs ++ tail) ≡ next_record default_config st.InField fields (field ++ xs) tail
digits_run fields field [] tail h = ap (λ (f : List ℕ). next_record default_config st.InField fields f tail) (sym (append-nil field))
digits_run fields field (b ∷ xs) tail h =
    let parts = and_parts (is_ascii_digit b) (all_ascii_digits xs) h in
    let plain = no_mark_digit b parts.0 in
    joined fields field b (xs ++ tail) plain.0 plain.1 plain.2
    ∙ (digits_run fields (field ++ (b ∷ [])) xs tail parts.1
    ∙ ap (λ (f : List ℕ). next_record default_config st.InField fields f tail) (append_assoc field (b ∷ []) xs))

run_digits : (fields : List (List ℕ)) (b : ℕ) (xs tail : List ℕ) → all_ascii_digits (b ∷ xs) ≡ true
    → next_record default_config st.StartField fields [] ((b ∷ xs) ++ tail) ≡ next_record default_config st.InField fields (b ∷ xs) tail
run_digits fields b xs tail h =
    let parts = and_parts (is_ascii_digit b) (all_ascii_digits xs) h in
    start-same fields [] b (xs ++ tail) (no_mark_digit b parts.0).3 ∙ digits_run fields [] (b ∷ xs) tail h

run_minus : (fields : List (List ℕ)) (xs tail : List ℕ) → all_ascii_digits xs ≡ true
    → next_record default_config st.StartField fields [] ((45 ∷ xs) ++ tail) ≡ next_record default_config st.InField fields (45 ∷ xs) tail
run_minus fields xs tail h = start-same fields [] 45 (xs ++ tail) refl ∙ (joined fields [] 45 (xs ++ tail) refl refl refl ∙ digits_run fields (45 ∷ []) xs tail h)

-- a text from a place on is a part of it and what comes after
parted : (text : List ℕ) (from end : ℕ) → from ≤ end → end ≤ length text → drop from text ≡ between from end text ++ drop end text
parted text from end le within =
    ap (drop from) (sym (take-append-drop end text))
    ∙ (drop-append-le from (take end text) (drop end text) (omega (arith, length-take-le end text within)) ∙ ap (λ l. l ++ drop end text) (sym (between_is text from end)))

part_front : (xs : List ℕ) (n k : ℕ) → k < n → n ≤ length xs → get_or (take n xs) k 0 ≡ get_or xs k 0
part_front [] n k lt le = absurd (omega arith)
part_front (x ∷ xs) zero k lt le = absurd (omega arith)
part_front (x ∷ xs) (suc n) zero lt le = refl
part_front (x ∷ xs) (suc n) (suc k) lt le = part_front xs n k (omega arith) (omega arith)

-- a part with its first byte apart
pub part_first : (text : List ℕ) (from end : ℕ) → from < end → end ≤ length text → between from end text ≡ get_or text from 0 ∷ between (from + 1) end text
part_first text from end lt within =
    between_is text from end
    ∙ (one_more (take end text) from (omega (arith, length-take-le end text within))
    ∙ (ap (λ (b : ℕ). b ∷ drop (from + 1) (take end text)) (part_front text end from lt within)
    ∙ ap (λ (l : List ℕ). get_or text from 0 ∷ l) (sym (between_is text (from + 1) end))))

-- the digits from one place up to another write a number
pub record AreDigits (text : List ℕ) (from at value : ℕ) : Type 0 where
  pub digits : all_ascii_digits (between from at text) ≡ true
  pub writes : digits_value 10 (between from at text) ≡ value

pub digits_start : (text : List ℕ) (from : ℕ) → AreDigits text from from 0
digits_start text from = record {
  digits = ap all_ascii_digits (between_none text from);
  writes = ap (digits_value 10) (between_none text from);
}

digits_append : (xs : List ℕ) (c : ℕ) → all_ascii_digits xs ≡ true → is_ascii_digit c ≡ true → all_ascii_digits (xs ++ c ∷ []) ≡ true
digits_append [] c h d = and_from (is_ascii_digit c) true d refl
digits_append (x ∷ xs) c h d =
    let parts = and_parts (is_ascii_digit x) (all_ascii_digits xs) h in
    and_from (is_ascii_digit x) (all_ascii_digits (xs ++ c ∷ [])) parts.0 (digits_append xs c parts.1 d)

value_append : (xs : List ℕ) (n c : ℕ) → digits_value_after 10 n (xs ++ c ∷ []) ≡ digits_value_after 10 n xs * 10 + digit_value c
value_append [] n c = refl
value_append (x ∷ xs) n c = value_append xs (n * 10 + digit_value x) c

pub digits_more : (text : List ℕ) (from at value : ℕ) → from ≤ at → at < length text → is_ascii_digit (get_or text at 0) ≡ true → AreDigits text from at value
    → AreDigits text from (at + 1) (value * 10 + (get_or text at 0 - 48))
digits_more text from at value le lt d h =
    let grown = between_more text from at 0 le lt in
    record {
      digits = ap all_ascii_digits grown ∙ digits_append (between from at text) (get_or text at 0) h.digits d;
      writes = ap (digits_value 10) grown ∙ (value_append (between from at text) 0 (get_or text at 0)
          ∙ (ap (λ (v : ℕ). v * 10 + digit_value (get_or text at 0)) h.writes ∙ ap (λ (n : ℕ). value * 10 + n) (digit_is (get_or text at 0) d)));
    }

-- a field of digits, and one of a minus and digits
pub digits_joined : (text : List ℕ) (from end : ℕ) → from < end → end ≤ length text → all_ascii_digits (between from end text) ≡ true
    → (fields : List (List ℕ)) → first_at fields text from ≡ field_at fields (between from end text) text end
digits_joined text from end lt within h fields =
    let first = part_first text from end lt within in
    let split = parted text from end (omega arith) within ∙ ap (λ (l : List ℕ). l ++ drop end text) first in
    ap (next_record default_config st.StartField fields []) split
    ∙ (run_digits fields (get_or text from 0) (between (from + 1) end text) (drop end text) (ap all_ascii_digits (sym first) ∙ h)
    ∙ ap (λ (f : List ℕ). field_at fields f text end) (sym first))

pub minus_joined : (text : List ℕ) (from end : ℕ) → from < end → end ≤ length text → get_or text from 0 ≡ 45 → all_ascii_digits (between (from + 1) end text) ≡ true
    → (fields : List (List ℕ)) → first_at fields text from ≡ field_at fields (between from end text) text end
minus_joined text from end lt within minus h fields =
    let first = part_first text from end lt within ∙ ap (λ (b : ℕ). b ∷ between (from + 1) end text) minus in
    let split = parted text from end (omega arith) within ∙ ap (λ (l : List ℕ). l ++ drop end text) first in
    ap (next_record default_config st.StartField fields []) split
    ∙ (run_minus fields (between (from + 1) end text) (drop end text) h ∙ ap (λ (f : List ℕ). field_at fields f text end) (sym first))

-- ---- records

comma_ends : (fields : List (List ℕ)) (field rest : List ℕ) → next_record default_config st.InField fields field (44 ∷ rest) ≡ next_record default_config st.StartField (fields ++ (field ∷ [])) [] rest
unfolding next_record
comma_ends fields field rest = refl

feed_ends : (fields : List (List ℕ)) (field rest : List ℕ) → next_record default_config st.InField fields field (10 ∷ rest) ≡ Some (fields ++ (field ∷ []), st.StartRecord, rest)
unfolding next_record
feed_ends fields field rest = refl

return_ends : (fields : List (List ℕ)) (field rest : List ℕ) → next_record default_config st.InField fields field (13 ∷ rest) ≡ Some (fields ++ (field ∷ []), st.AfterCr, rest)
unfolding next_record
return_ends fields field rest = refl

text_ends : (fields : List (List ℕ)) (field : List ℕ) → next_record default_config st.InField fields field [] ≡ Some (fields ++ (field ∷ []), st.StartRecord, [])
unfolding next_record
text_ends fields field = refl

pub ended_by_text : (text : List ℕ) (at : ℕ) → at ≡ length text → EndsRecord text at at
ended_by_text text at e =
    let none : drop at text ≡ [] = drop_all at text (omega (arith, e)) in
    (st.StartRecord, refl, λ fields field. rw none (text_ends fields field))

pub ended_by_line : (text : List ℕ) (at : ℕ) → at < length text → ends_line (get_or text at 0) ≡ true → EndsRecord text at (at + 1)
ended_by_line text at lt e = elim (or_cases (get_or text at 0 == 10) (get_or text at 0 == 13) e) [
  | inl feed ↦ (
    st.StartRecord,
    refl,
    λ fields field. ap (next_record default_config st.InField fields field) (one_more text at lt ∙ ap (λ (b : ℕ). b ∷ drop (at + 1) text) (eqb-true (get_or text at 0) 10 feed))
        ∙ feed_ends fields field (drop (at + 1) text),
  )
  | inr return ↦ (
    st.AfterCr,
    refl,
    λ fields field. ap (next_record default_config st.InField fields field) (one_more text at lt ∙ ap (λ (b : ℕ). b ∷ drop (at + 1) text) (eqb-true (get_or text at 0) 13 return))
        ∙ return_ends fields field (drop (at + 1) text),
  )
]

-- the fields of a row so far, the last of which ends at a place
pub record IsRowTo (text : List ℕ) (from name_end at : ℕ) (tokens : List ℤ) : Type 0 where
  pub within : (name_end ≤ at) × (at ≤ length text)
  pub done : List (List ℕ)
  pub last : List ℕ
  pub fields : List (List ℕ)
  pub parts : done ++ (last ∷ []) ≡ between from name_end text ∷ fields
  pub read : record_at text from ≡ field_at done last text at
  pub are : map token_of fields ≡ map Some tokens

pub row_start : (text : List ℕ) (from name_end : ℕ) → from < length text → name_end ≤ length text → ends_line (get_or text from 0) ≡ false → (get_or text from 0 == 34) ≡ false
    → field_at [] (between from name_end text) text name_end ≡ field_at [] [] text from → IsRowTo text from name_end name_end []
row_start text from name_end lt within begins quote named =
    let b = get_or text from 0 in
    let rest = drop (from + 1) text in
    let ends = or_parts (b == 10) (b == 13) begins in
    let first = ap (next_record default_config st.StartRecord [] []) (one_more text from lt)
    ∙ (record-same [] [] b rest ends.1 ends.0 ∙ (start-same [] [] b rest quote ∙ ap (next_record default_config st.InField [] []) (sym (one_more text from lt)))) in
    record {
      within = (omega arith, within);
      done = [];
      last = between from name_end text;
      fields = [];
      parts = refl;
      read = first ∙ sym named;
      are = refl;
    }

map_more : {A B : Type 0} (f : A → B) (xs : List A) (x : A) → map f (xs ++ x ∷ []) ≡ map f xs ++ f x ∷ []
map_more f [] x = refl
map_more f (y ∷ xs) x = ap (λ l. f y ∷ l) (map_more f xs x)

pub row_more : (text : List ℕ) (from name_end at end : ℕ) (tokens : List ℤ) (token : ℤ) → IsRowTo text from name_end at tokens → at < length text → get_or text at 0 ≡ 44
    → at + 1 < end → end ≤ length text → token_of (between (at + 1) end text) ≡ Some token
    → ((fields : List (List ℕ)) → first_at fields text (at + 1) ≡ field_at fields (between (at + 1) end text) text end) → IsRowTo text from name_end end (tokens ++ token ∷ [])
row_more text from name_end at end tokens token h lt comma more within is joins =
    let field = between (at + 1) end text in
    record {
      within = (omega (arith, h.within.0), within);
      done = h.done ++ (h.last ∷ []);
      last = field;
      fields = h.fields ++ (field ∷ []);
      parts = ap (λ (l : List (List ℕ)). l ++ (field ∷ [])) h.parts;
      read = h.read
          ∙ (ap (next_record default_config st.InField h.done h.last) (one_more text at lt ∙ ap (λ (b : ℕ). b ∷ drop (at + 1) text) comma)
          ∙ (comma_ends h.done h.last (drop (at + 1) text) ∙ joins (h.done ++ (h.last ∷ []))));
      are = map_more token_of h.fields field
          ∙ (ap (λ (l : List (Option ℤ)). l ++ token_of field ∷ []) h.are ∙ (ap (λ (o : Option ℤ). map Some tokens ++ o ∷ []) is ∙ sym (map_more Some tokens token)));
    }

pub row_end : (text : List ℕ) (from name_end at end : ℕ) (tokens : List ℤ) → IsRowTo text from name_end at tokens → EndsRecord text at end → IsRow text from name_end tokens end
row_end text from name_end at end tokens h ends = record {
  fields = h.fields;
  state = ends.0;
  between_records = ends.1;
  read = h.read ∙ (ends.2 h.done h.last ∙ ap (λ (l : List (List ℕ)). Some (l, ends.0, drop end text)) h.parts);
  are = h.are;
}

-- ---- tokens of fields

kept_from : (o : Option ℤ) (fields : List (List ℕ)) (t : ℤ) (tokens : List ℤ) → o ∷ map token_of fields ≡ Some t ∷ map Some tokens → (o ≡ Some t) × (map token_of fields ≡ map Some tokens)
kept_from o fields t tokens e = (cc e, cc e)

pub tokens_kept : (fields : List (List ℕ)) (tokens : List ℤ) → map token_of fields ≡ map Some tokens → filter_map token_of fields ≡ tokens
tokens_kept [] [] e = refl
tokens_kept [] (t ∷ tokens) e = cc e
tokens_kept (f ∷ fields) [] e = cc e
tokens_kept (f ∷ fields) (t ∷ tokens) e =
    let parts = kept_from (token_of f) fields t tokens e in
    rw parts.0 (ap (λ (l : List ℤ). t ∷ l) (tokens_kept fields tokens parts.1))

pub none_faulty : (fields : List (List ℕ)) (tokens : List ℤ) (i : ℕ) → map token_of fields ≡ map Some tokens → position_from is_no_token i fields ≡ None
none_faulty [] tokens i e = refl
none_faulty (f ∷ fields) [] i e = cc e
none_faulty (f ∷ fields) (t ∷ tokens) i e =
    let parts = kept_from (token_of f) fields t tokens e in
    rw parts.0 (none_faulty fields tokens (i + 1) parts.1)

-- ---- tokens

some_byte : (ds : List ℕ) → 0 < length ds → not (length ds == 0) ≡ true
some_byte ds some =
    let differs : length ds ≢ 0 = omega arith in
    let none : (length ds == 0) ≡ false = ne_eqb (length ds) 0 differs in
    rw none refl

-- a minus and digits, and digits alone, are a token
pub token_minus : (text : List ℕ) (from end value : ℕ) → from + 1 < end → end ≤ length text → get_or text from 0 ≡ 45 → all_ascii_digits (between (from + 1) end text) ≡ true → digits_value 10 (between (from + 1) end text) ≡ value → value ≤ 2 ^ 63
    → token_of (between from end text) ≡ Some (neg_ℤ (pos value))
token_minus text from end value lt within minus digits writes small =
    let ds = between (from + 1) end text in
    let some : 0 < length ds = omega (arith, length-between text (from + 1) end within) in
    let are : are_digits ds ≡ true = and_from (not (length ds == 0)) (all_ascii_digits ds) (some_byte ds some) digits in
    let low : digits_value 10 ds ≤ 2 ^ 63 = omega (arith, writes) in
    sym (token_of-minus (between from end text) (get_or text from 0) ds (Some (neg_ℤ (pos value))) (part_first text from end (omega arith) within) minus ((are, low), ap (λ (n : ℕ). neg_ℤ (pos n)) (sym writes)))

pub token_digits : (text : List ℕ) (from end value : ℕ) → from < end → end ≤ length text → get_or text from 0 ≢ 45 → all_ascii_digits (between from end text) ≡ true → digits_value 10 (between from end text) ≡ value → value < 2 ^ 63
    → token_of (between from end text) ≡ Some (pos value)
token_digits text from end value lt within differs digits writes small =
    let ds = between from end text in
    let some : 0 < length ds = omega (arith, length-between text from end within) in
    let are : are_digits ds ≡ true = and_from (not (length ds == 0)) (all_ascii_digits ds) (some_byte ds some) digits in
    let low : digits_value 10 ds < 2 ^ 63 = omega (arith, writes) in
    sym (token_of-plain ds (get_or text from 0) (between (from + 1) end text) (Some (pos value)) (part_first text from end lt within) differs ((are, low), ap pos (sym writes)))
