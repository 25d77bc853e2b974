-- The rows of a text without quotes, among the streams.
use Rattle.std.proofs.Common.{◌≡◌, ◌≢◌, ◌+◌, ◌<◌, ◌≤◌, ◌==◌, ◌∷◌, ◌++◌, [], ℕ, zero, suc, ℤ, List, true, false, Option, Some, None, option_map, unwrap_or, Ok, length, map, drop, get_or, set, refl, sym, ap, subst, ◌∙◌, inl, inr, arith, length-drop}
use Rattle.std.proofs.lemmas.Bool.{cases_Bool, eqb-true}
use Rattle.std.proofs.lemmas.List.{drop_all}
use Rattle.std.specs.List.{between}
use Rattle.std.specs.Str.{bytes_eq}
use Rattle.csv.proofs.ReadFacts.{reached-more}
use Rattle.csv.specs.Machine.{ends_at_end, next_record}
use Rattle.csv.specs.Reading.{Reached, default_config, strip_bom}
use Rattle.csv.specs.declared.parser.State.{State}
use Rattle.csv.specs.declared.parser.State.TheVariants as st
use Rattle.token_text.specs.Plain.{IsRow, IsTaken, record_at}
use Rattle.token_text.specs.Records.{Record, name_of, records_of}
use Rattle.token_text.specs.Streams.{first_fault, is_among, read_of, tokens_named, with_tokens}
use Rattle.token_text.specs.declared.fault.TokenFault.TheVariants.{Number}
use Rattle.token_text.proofs.PlainFacts.{none_faulty, tokens_kept}
use Rattle.token_text.proofs.ReadingFacts.{all-read}
use Rattle.token_text.proofs.RecordFacts.{next-shrinks, records-end}
use Rattle.token_text.proofs.StreamFacts.{bytes-same, fault-number, first_fault-more, here-given, not-given, streams-more}

-- names of which none is the one
others : (f : List ℕ → Option (List ℤ)) (names : List (List ℕ)) (name : List ℕ) (tokens : List ℤ) → ((k : ℕ) → k < length names → bytes_eq (get_or names k []) name ≡ false)
    → map f names ≡ map (with_tokens f name tokens) names
others f [] name tokens differ = refl
others f (x ∷ names) name tokens differ =
    ap (λ (o : Option (List ℤ)). o ∷ map f names) (sym (not-given f name x tokens (differ 0 (omega arith))))
    ∙ ap (λ (l : List (Option (List ℤ))). with_tokens f name tokens x ∷ l) (others f names name tokens (λ k lt. differ (suc k) (omega arith)))

-- a name that stands once gets its tokens by one write
once : (f : List ℕ → Option (List ℤ)) (names : List (List ℕ)) (name : List ℕ) (tokens : List ℤ) (place : ℕ) → place < length names → bytes_eq (get_or names place []) name ≡ true
    → ((k : ℕ) → k < length names → k ≢ place → bytes_eq (get_or names k []) name ≡ false) → set (map f names) place (Some tokens) ≡ map (with_tokens f name tokens) names
once f [] name tokens place lt here differ = absurd (omega arith)
once f (x ∷ names) name tokens zero lt here differ =
    ap (λ (o : Option (List ℤ)). o ∷ map f names) (sym (here-given f name x tokens here))
    ∙ ap (λ (l : List (Option (List ℤ))). with_tokens f name tokens x ∷ l) (others f names name tokens (λ k lt. differ (suc k) (omega arith) (λ e. absurd (omega (arith, e)))))
once f (x ∷ names) name tokens (suc place) lt here differ =
    ap (λ (o : Option (List ℤ)). o ∷ set (map f names) place (Some tokens)) (sym (not-given f name x tokens (differ 0 (omega arith) (λ e. absurd (omega (arith, e))))))
    ∙ ap (λ (l : List (Option (List ℤ))). with_tokens f name tokens x ∷ l)
    (once f names name tokens place (omega arith) here (λ k lt ne. differ (suc k) (omega arith) (λ e. ne (omega (arith, e)))))

pub row_taken : (names : List (List ℕ)) (text : List ℕ) (from name_end end : ℕ) (tokens : List ℤ) (place : ℕ) (before : List Record) (old streams : List (Option (List ℤ)))
    → IsRow text from name_end tokens end → place < length names → get_or names place [] ≡ between from name_end text
    → ((k : ℕ) → k < length names → k ≢ place → bytes_eq (get_or names k []) (between from name_end text) ≡ false)
    → is_among names (between from name_end text) ≡ true → is_among (map name_of before) (between from name_end text) ≡ false → old ≡ map (tokens_named before) names → streams ≡ set old place (Some tokens)
    → IsTaken names text from before streams end
row_taken names text from name_end end tokens place before old streams h within same differ among new all grown =
    let name = between from name_end text in
    let row : Record = name ∷ h.fields in
    let kept = tokens_kept h.fields tokens h.are in
    record {
      row = row;
      state = h.state;
      between_records = h.between_records;
      read = h.read;
      fine = λ n. fault-number names (map name_of before) n row among new ∙ ap (option_map (λ field. Number n field)) (none_faulty h.fields tokens 2 h.are);
      given = grown ∙ (ap (λ (l : List (Option (List ℤ))). set l place (Some tokens)) all
          ∙ (once (tokens_named before) names name tokens place within (bytes-same (get_or names place []) name same) differ
          ∙ (ap (λ (t : List ℤ). map (with_tokens (tokens_named before) name t) names) (sym kept) ∙ streams-more names before row new)));
    }

-- ---- between records

after_return : (c : ℕ) (rest : List ℕ) → next_record default_config st.AfterCr [] [] (c ∷ rest) ≡ next_record default_config st.StartRecord [] [] (c ∷ rest)
unfolding next_record
after_return c rest = elim (cases_Bool (c == 10)) [
  | inl feed ↦
      let Same : ℕ → Type 0 = λ b. next_record default_config st.AfterCr [] [] (b ∷ rest) ≡ next_record default_config st.StartRecord [] [] (b ∷ rest) in
      subst Same (sym (eqb-true c 10 feed)) refl
  | inr other ↦ rw other refl
]

nothing_left : next_record default_config st.StartRecord [] [] [] ≡ None
unfolding next_record
nothing_left = refl

nothing_after_return : next_record default_config st.AfterCr [] [] [] ≡ None
unfolding next_record
nothing_after_return = refl

-- between records each state reads on as at the start
same_start : (s : State) (xs : List ℕ) → ends_at_end s ≡ false → next_record default_config s [] [] xs ≡ next_record default_config st.StartRecord [] [] xs
same_start st.StartRecord xs e = refl
same_start st.AfterCr [] e = nothing_after_return ∙ sym nothing_left
same_start st.AfterCr (c ∷ rest) e = after_return c rest
same_start st.StartField xs e = cc e
same_start st.InField xs e = cc e
same_start st.InQuoted xs e = cc e
same_start st.AfterQuote xs e = cc e
same_start st.InEscape xs e = cc e
same_start st.InComment xs e = cc e

-- ---- the whole text

-- a text of which the rows before a place were taken in
pub record IsReadPlainly (bytes : List ℕ) (names : List (List ℕ)) (at : ℕ) (streams : List (Option (List ℤ))) : Type 0 where
  pub within : at ≤ length bytes
  pub before : List Record
  pub state : State
  pub between_records : ends_at_end state ≡ false
  pub reached : Reached default_config st.StartRecord (strip_bom bytes) before state (drop at bytes)
  pub given : streams ≡ map (tokens_named before) names
  pub sound : first_fault names [] 1 before ≡ None

pub plain_start : (bytes : List ℕ) (names : List (List ℕ)) (streams : List (Option (List ℤ))) → strip_bom bytes ≡ bytes → streams ≡ map (tokens_named []) names → first_fault names [] 1 [] ≡ None
    → IsReadPlainly bytes names 0 streams
unfolding Reached
plain_start bytes names streams unmarked given sound = record {
  within = omega arith;
  before = [];
  state = st.StartRecord;
  between_records = refl;
  reached = (refl, unmarked);
  given = given;
  sound = sound;
}

pub plain_more : (bytes : List ℕ) (names : List (List ℕ)) (at from end : ℕ) (streams next : List (Option (List ℤ))) → (h : IsReadPlainly bytes names at streams) → record_at bytes from ≡ record_at bytes at
    → IsTaken names bytes from h.before next end → end ≤ length bytes → IsReadPlainly bytes names end next
plain_more bytes names at from end streams next h same taken within = record {
  within = within;
  before = h.before ++ (taken.row ∷ []);
  state = taken.state;
  between_records = taken.between_records;
  reached = reached-more default_config st.StartRecord h.state (strip_bom bytes) (drop at bytes) h.before (taken.row, taken.state, drop end bytes) h.reached
      (same_start h.state (drop at bytes) h.between_records ∙ (sym same ∙ taken.read));
  given = taken.given;
  sound = first_fault-more names h.before taken.row h.sound (taken.fine (length h.before + 1));
}

-- a row takes a byte at least
pub plain_further : (bytes : List ℕ) (names : List (List ℕ)) (from end : ℕ) (before : List Record) (next : List (Option (List ℤ))) → IsTaken names bytes from before next end → from ≤ length bytes → end ≤ length bytes → from < end
plain_further bytes names from end before next taken within le =
    let shorter = next-shrinks st.StartRecord (drop from bytes) (taken.row, taken.state, drop end bytes) refl taken.read in
    omega (arith, shorter.1, length-drop from bytes, length-drop end bytes)

pub plain_end : (bytes : List ℕ) (names : List (List ℕ)) (at from : ℕ) (streams : List (Option (List ℤ))) → IsReadPlainly bytes names at streams → record_at bytes from ≡ record_at bytes at → from ≡ length bytes
    → read_of bytes names ≡ Ok (map (λ stream. unwrap_or stream []) streams)
unfolding records_of
plain_end bytes names at from streams h same all =
    let none : drop from bytes ≡ [] = drop_all from bytes (omega (arith, all)) in
    let last = same_start h.state (drop at bytes) h.between_records ∙ (sym same ∙ (ap (next_record default_config st.StartRecord [] []) none ∙ nothing_left)) in
    all-read bytes names h.before streams (records-end (strip_bom bytes) (drop at bytes) h.state h.before h.reached last) h.sound h.given
