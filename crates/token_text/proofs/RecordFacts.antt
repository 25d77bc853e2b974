-- Every list of all the records of a text is the one that `records` gives, and that one is such a list.
use Rattle.std.proofs.Common.{◌≡◌, ◌≤◌, ◌<◌, ◌+◌, ◌-◌, ◌==◌, ◌∷◌, ◌++◌, [], ℕ, zero, suc, List, length, Bool, true, false, cond, Option, Some, None, refl, sym, ap, ◌∙◌, arith, zero-add}
use Rattle.std.proofs.lemmas.List.{append-nil}
use Rattle.csv.specs.Machine.{Read, after_end, ends_at_end, ends_with, fields_after, field_after, in_field, is_end, next_record, start_field, start_record, step}
use Rattle.csv.specs.Reading.{AreRecords, Reached, default_config, records, records_from, records_next, strip_bom}
use Rattle.csv.specs.declared.parser.State.{State}
use Rattle.csv.specs.declared.parser.State.TheVariants as st
use Rattle.csv.specs.declared.parser.Action.{Action}
use Rattle.csv.specs.declared.parser.Action.TheVariants as act
use Rattle.token_text.specs.Records.{AreAllRecords, Record, records_of}

-- where an action ends a record, the state after it is one between records
abbrev EndsBetween : State × Action → Type 0
EndsBetween p = is_end p.1 ≡ true → ends_at_end p.0 ≡ false

if_between : (b : Bool) (p q : State × Action) → EndsBetween p → EndsBetween q → EndsBetween (cond b p q)
if_between true p q a b = a
if_between false p q a b = b

no_end : (s : State) (a : Action) → is_end a ≡ false → EndsBetween (s, a)
no_end s a e h = absurd (let no : false ≡ true = sym e ∙ h in cc)

after_end-between : (c : ℕ) → ends_at_end (after_end default_config.terminator c) ≡ false
after_end-between c = between (c == 13)
  where
    between : (b : Bool) → ends_at_end (cond b st.AfterCr st.StartRecord) ≡ false
    between true = refl
    between false = refl

in_field-between : (c : ℕ) → EndsBetween (in_field default_config c)
in_field-between c =
    if_between (c == 44) (st.StartField, act.EndField)
    (cond (ends_with default_config.terminator c) (after_end default_config.terminator c, act.EndRecord) (st.InField, act.Copy))
    (no_end st.StartField act.EndField refl)
    (if_between (ends_with default_config.terminator c) (after_end default_config.terminator c, act.EndRecord) (st.InField, act.Copy)
    (λ h. after_end-between c) (no_end st.InField act.Copy refl))

start_field-between : (c : ℕ) → EndsBetween (start_field default_config c)
start_field-between c =
    if_between (c == 34) (st.InQuoted, act.Skip) (in_field default_config c) (no_end st.InQuoted act.Skip refl) (in_field-between c)

start_record-between : (c : ℕ) → EndsBetween (start_record default_config c)
start_record-between c =
    if_between (ends_with default_config.terminator c) (st.StartRecord, act.Skip) (start_field default_config c)
    (no_end st.StartRecord act.Skip refl) (start_field-between c)

step-between : (s : State) (c : ℕ) → EndsBetween (step default_config s c)
step-between st.StartRecord c = start_record-between c
step-between st.StartField c = start_field-between c
step-between st.InField c = in_field-between c
step-between st.InQuoted c =
    if_between (c == 34) (st.AfterQuote, act.Skip) (st.InQuoted, act.Copy) (no_end st.AfterQuote act.Skip refl) (no_end st.InQuoted act.Copy refl)
step-between st.InEscape c = no_end st.InQuoted act.Copy refl
step-between st.AfterQuote c =
    if_between (c == 34) (st.InQuoted, act.Copy) (in_field default_config c) (no_end st.InQuoted act.Copy refl) (in_field-between c)
step-between st.InComment c =
    if_between (c == 10) (st.StartRecord, act.Skip) (st.InComment, act.Skip) (no_end st.StartRecord act.Skip refl) (no_end st.InComment act.Skip refl)
step-between st.AfterCr c =
    if_between (c == 10) (st.StartRecord, act.Skip) (start_record default_config c) (no_end st.StartRecord act.Skip refl) (start_record-between c)

-- a record leaves no more than there was, and the machine between records
abbrev Leaves : ℕ → Option Read → Type 0
Leaves n None = Unit {0}
Leaves n (Some p) = (ends_at_end p.1 ≡ false) × (length p.2 ≤ n)

leaves-more : (m n : ℕ) (o : Option Read) → m ≤ n → Leaves m o → Leaves n o
leaves-more m n None le h = tt
leaves-more m n (Some p) le h = (h.0, omega arith)

next-leaves : (s : State) (fields : List (List ℕ)) (field xs : List ℕ) → Leaves (length xs - 1) (next_record default_config s fields field xs)
unfolding next_record
next-leaves s fields field [] = at_end (ends_at_end s)
  where
    at_end : (b : Bool) → Leaves 0 (cond b (Some (fields ++ (field ∷ []), st.StartRecord, [])) None)
    at_end true = (refl, omega arith)
    at_end false = tt
next-leaves s fields field (c ∷ rest) =
    at_byte (is_end (step default_config s c).1) refl (next-leaves (step default_config s c).0 (fields_after (step default_config s c).1 fields field) (field_after (step default_config s c).1 c field) rest)
  where
    at_byte : (b : Bool) → is_end (step default_config s c).1 ≡ b
        → Leaves (length rest - 1) (next_record default_config (step default_config s c).0 (fields_after (step default_config s c).1 fields field) (field_after (step default_config s c).1 c field) rest)
        → Leaves (suc (length rest) - 1) (cond b (Some (fields_after (step default_config s c).1 fields field, (step default_config s c).0, rest))
        (next_record default_config (step default_config s c).0 (fields_after (step default_config s c).1 fields field) (field_after (step default_config s c).1 c field) rest))
    at_byte true e more = (step-between s c e, omega arith)
    at_byte false e more = leaves-more (length rest - 1) (suc (length rest) - 1) _ (omega arith) more

from_leaves : (n : ℕ) (o : Option Read) (p : Read) → Leaves n o → o ≡ Some p → (ends_at_end p.1 ≡ false) × (length p.2 ≤ n)
from_leaves n o p h e = rw e at h

-- a record that begins between records takes a byte at least
pub next-shrinks : (s : State) (xs : List ℕ) (p : Read) → ends_at_end s ≡ false → next_record default_config s [] [] xs ≡ Some p
    → (ends_at_end p.1 ≡ false) × (length p.2 < length xs)
unfolding next_record
next-shrinks s [] p b e =
    let no = rw b at e in
    cc no
next-shrinks s (c ∷ rest) p b e =
    let h = from_leaves (suc (length rest) - 1) _ p (next-leaves s [] [] (c ∷ rest)) e in
    (h.0, omega (arith, h.1))

pub reached-shrinks : (s s2 : State) (xs ys : List ℕ) (rows : List Record) → ends_at_end s ≡ false → Reached default_config s xs rows s2 ys
    → (ends_at_end s2 ≡ false) × (length rows + length ys ≤ length xs)
unfolding Reached
reached-shrinks s s2 xs ys [] b h = (rw h.0 at b, omega (arith, ap length h.1))
reached-shrinks s s2 xs ys (r ∷ rs) b h =
    let one = next-shrinks s xs h.0 b h.1 in
    let rest = reached-shrinks h.0.1 s2 h.0.2 ys rs one.0 h.3 in
    (rest.0, omega (arith, one.1, rest.1))

-- what was reached, and then what comes after it
reached-from : (n : ℕ) (s s2 : State) (xs ys : List ℕ) (rows : List Record) → Reached default_config s xs rows s2 ys
    → records_from default_config (length rows + n) s xs ≡ rows ++ records_from default_config n s2 ys
unfolding Reached records_from
reached-from n s s2 xs ys [] h = rw (zero-add n, h.0, h.1) refl
reached-from n s s2 xs ys (r ∷ rs) h =
    let size : length (r ∷ rs) + n ≡ suc (length rs + n) = omega arith in
    rw (size, h.1, h.2) (ap (λ (t : List Record). h.0.0 ∷ t) (reached-from n h.0.1 s2 h.0.2 ys rs h.3))

ends-from : (n : ℕ) (s : State) (ys : List ℕ) → next_record default_config s [] [] ys ≡ None → records_from default_config n s ys ≡ []
unfolding records_from
ends-from zero s ys e = refl
ends-from (suc n) s ys e = rw e refl

-- the records that were reached begin the whole list
pub records-begin : (xs ys : List ℕ) (s : State) (rows : List Record) → Reached default_config st.StartRecord xs rows s ys
    → records default_config xs ≡ rows ++ records_from default_config (length xs + 1 - length rows) s ys
records-begin xs ys s rows h =
    let fits = reached-shrinks st.StartRecord s xs ys rows refl h in
    let size : length xs + 1 ≡ length rows + (length xs + 1 - length rows) = omega (arith, fits.1) in
    ap (λ n. records_from default_config n st.StartRecord xs) size ∙ reached-from (length xs + 1 - length rows) st.StartRecord s xs ys rows h

pub records-end : (xs ys : List ℕ) (s : State) (rows : List Record) → Reached default_config st.StartRecord xs rows s ys
    → next_record default_config s [] [] ys ≡ None → records default_config xs ≡ rows
records-end xs ys s rows h e =
    records-begin xs ys s rows h ∙ ap (λ t. rows ++ t) (ends-from (length xs + 1 - length rows) s ys e) ∙ append-nil rows

all-from : (n : ℕ) (s : State) (xs : List ℕ) → ends_at_end s ≡ false → length xs < n
    → AreRecords default_config s xs (records_from default_config n s xs)
unfolding Reached records_from
all-from zero s xs b lt = absurd (omega arith)
all-from (suc n) s xs b lt =
    at_record (next_record default_config s [] [] xs) refl (λ p e. let one = next-shrinks s xs p b e in all-from n p.1 p.2 one.0 (omega (arith, one.1)))
  where
    at_record : (o : Option Read) → next_record default_config s [] [] xs ≡ o
        → ((p : Read) → next_record default_config s [] [] xs ≡ Some p → AreRecords default_config p.1 p.2 (records_from default_config n p.1 p.2))
        → AreRecords default_config s xs (records_next (records_from default_config n) o)
    at_record None e after = (s, xs, (refl, refl), e)
    at_record (Some p) e after = let more = after p e in (more.0, more.1, (p, e, refl, more.2), more.3)

pub all-records : (bytes : List ℕ) → AreAllRecords bytes (records_of bytes)
unfolding records_of
all-records bytes = record {
  all = all-from (length (strip_bom bytes) + 1) st.StartRecord (strip_bom bytes) refl (omega arith);
  only = λ other h. sym (records-end (strip_bom bytes) h.1 h.0 other h.2 h.3);
}
