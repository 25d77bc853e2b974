-- Texts whose bytes come after a byte, and the lines and fields that they are.
use Rattle.std.proofs.Common.{◌≡◌, ◌≢◌, ℕ, zero, suc, ◌+◌, ◌/◌, ◌%◌, ◌==◌, ◌<◌, ◌≤◌, Bool, true, false, ◌&&◌, nat_lt, if◌then◌else◌, List, [], ◌∷◌, ◌++◌, refl, ap, ◌∙◌, arith}
use Rattle.std.proofs.lemmas.Bool.{ltb-true, ne_eqb}
use Rattle.std.specs.Fmt.{decimal, digit_glyph, digits_onto}
use Rattle.std.specs.Fmt as fmt
use Rattle.std.specs.List.{AllByRecursion, list_all}
use Rattle.journal_laws.specs.Lines.{begun_with, lines}

-- every byte comes after this one
abbrev pub Above : ℕ → List ℕ → Type 0
Above k text = AllByRecursion (λ b. k < b) text

both : (a b : Bool) → (a && b) ≡ true → (a ≡ true) × (b ≡ true)
both true b h = (refl, h)
both false b h = absurd (cc)

-- of a text that is written out
pub above_so : (k : ℕ) (text : List ℕ) → list_all (λ b. nat_lt k b) text ≡ true → Above k text
above_so k [] h = tt
above_so k (b ∷ text) h = let t = both (nat_lt k b) (list_all (λ b. nat_lt k b) text) h in (ltb-true k b t.0, above_so k text t.1)

pub above_more : (k l : ℕ) (text : List ℕ) → k ≤ l → Above l text → Above k text
above_more k l [] le h = tt
above_more k l (b ∷ text) le h = let here = h.0 in (omega arith, above_more k l text le h.1)

pub above_append : (k : ℕ) (xs ys : List ℕ) → Above k xs → Above k ys → Above k (xs ++ ys)
above_append k [] ys h more = more
above_append k (x ∷ xs) ys h more = (h.0, above_append k xs ys h.1 more)

-- ---- numbers

glyph_above : (b : Bool) (d : ℕ) → 44 < (if b then 48 + d else (if false then 55 + d else 87 + d))
glyph_above true d = omega arith
glyph_above false d = omega arith

onto_next : (b : Bool) (xs ys : List ℕ) → Above 44 xs → Above 44 ys → Above 44 (if b then xs else ys)
onto_next true xs ys h more = h
onto_next false xs ys h more = more

onto_above : (k n : ℕ) (acc : List ℕ) → Above 44 acc → Above 44 (digits_onto k 10 false n acc)
onto_above zero n acc h = h
onto_above (suc k) n acc h =
    let more : Above 44 (digit_glyph false (n % 10) ∷ acc) = (glyph_above (nat_lt (n % 10) 10) (n % 10), h) in
    onto_next (n / 10 == 0) (digit_glyph false (n % 10) ∷ acc) (digits_onto k 10 false (n / 10) (digit_glyph false (n % 10) ∷ acc)) more (onto_above k (n / 10) (digit_glyph false (n % 10) ∷ acc) more)

pub decimal_above : (n : ℕ) → Above 44 (decimal n)
unfolding fmt.digits
decimal_above n = onto_above 64 n [] tt

-- ---- lines

-- the text is one line, whatever follows it
abbrev pub IsLine : List ℕ → Type 0
IsLine line = (text : List ℕ) → lines (line ++ text) ≡ line ∷ lines text

pub feed_line : IsLine (10 ∷ [])
feed_line text = refl

pub longer_line : (xs line : List ℕ) → Above 10 xs → IsLine line → IsLine (xs ++ line)
longer_line [] line h is = is
longer_line (x ∷ xs) line h is = λ text.
    let here = h.0 in
    let ne : x ≢ 10 = (λ e. omega arith) in
    ap (λ b. if b then (x ∷ []) ∷ lines ((xs ++ line) ++ text) else begun_with x (lines ((xs ++ line) ++ text))) (ne_eqb x 10 ne)
    ∙ ap (begun_with x) (longer_line xs line h.1 is text)

-- ---- fields

-- what stands before the first comma, and what after it
pub record SameFields (xs ys cs bs : List ℕ) : Type 0 where
  pub first : xs ≡ cs
  pub rest : ys ≡ bs

pub same_fields : (xs ys cs bs : List ℕ) → Above 44 xs → Above 44 cs → xs ++ 44 ∷ ys ≡ cs ++ 44 ∷ bs → SameFields xs ys cs bs
same_fields [] ys [] bs h g e = record { first = refl; rest = cc }
same_fields [] ys (a ∷ cs) bs h g e = let one = g.0 in let f : 44 ≡ a = cc in absurd (omega arith)
same_fields (x ∷ xs) ys [] bs h g e = let one = h.0 in let f : x ≡ 44 = cc in absurd (omega arith)
same_fields (x ∷ xs) ys (a ∷ cs) bs h g e =
    let f : x ≡ a = cc in
    let r : xs ++ 44 ∷ ys ≡ cs ++ 44 ∷ bs = cc in
    let t = same_fields xs ys cs bs h.1 g.1 r in
    let first = t.first in
    record { first = cc; rest = t.rest }

-- the same before a line feed
pub same_lines : (xs ys cs bs : List ℕ) → Above 10 xs → Above 10 cs → xs ++ 10 ∷ ys ≡ cs ++ 10 ∷ bs → SameFields xs ys cs bs
same_lines [] ys [] bs h g e = record { first = refl; rest = cc }
same_lines [] ys (a ∷ cs) bs h g e = let one = g.0 in let f : 10 ≡ a = cc in absurd (omega arith)
same_lines (x ∷ xs) ys [] bs h g e = let one = h.0 in let f : x ≡ 10 = cc in absurd (omega arith)
same_lines (x ∷ xs) ys (a ∷ cs) bs h g e =
    let f : x ≡ a = cc in
    let r : xs ++ 10 ∷ ys ≡ cs ++ 10 ∷ bs = cc in
    let t = same_lines xs ys cs bs h.1 g.1 r in
    let first = t.first in
    record { first = cc; rest = t.rest }
