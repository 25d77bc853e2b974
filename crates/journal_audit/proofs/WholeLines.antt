-- Texts of whole lines, and first lines.
use Rattle.std.proofs.Common.{◌≡◌, ℕ, suc, ◌==◌, ◌≤◌, Bool, true, false, if◌then◌else◌, List, [], ◌∷◌, ◌++◌, length, take, map, refl, sym, ap, ◌∙◌, append_assoc, arith}
use Rattle.std.proofs.lemmas.List.{append-nil}
use Rattle.board_rules.specs.declared.entry.Entry.{Entry}
use Rattle.quiescent_driver.specs.Journals.{entry_line, journal_text}
use Rattle.journal_laws.specs.Lines.{EntriesAreLines, HavePlainPaths, begun_with, lines}
use Rattle.journal_audit.specs.Reading.{AreWholeLines, first_line}

pub nothing_whole : AreWholeLines []
nothing_whole rest = refl

pub both_whole : (a b : List ℕ) → AreWholeLines a → AreWholeLines b → AreWholeLines (a ++ b)
both_whole a b one other rest =
    ap lines (append_assoc a b rest)
    ∙ (one (b ++ rest)
    ∙ (ap (λ (l : List (List ℕ)). lines a ++ l) (other rest)
    ∙ (sym (append_assoc (lines a) (lines b) (lines rest)) ∙ ap (λ (l : List (List ℕ)). l ++ lines rest) (sym (one b)))))

-- ---- the text of a journal

module _ (law : EntriesAreLines) (n : ℕ) (entries : List Entry) (plain : HavePlainPaths entries) where
  pub journal_lines : lines (journal_text n entries) ≡ map (entry_line n) entries
  journal_lines = ap lines (sym (append-nil (journal_text n entries))) ∙ (law n entries [] plain ∙ append-nil (map (entry_line n) entries))

  pub journal_whole : AreWholeLines (journal_text n entries)
  journal_whole rest = law n entries rest plain ∙ ap (λ (l : List (List ℕ)). l ++ lines rest) (sym journal_lines)

-- ---- first lines

-- the lines of a text with one byte more before it
abbrev lines_by : ℕ → Bool → List (List ℕ) → List (List ℕ)
lines_by byte b ls = if b then (byte ∷ []) ∷ ls else begun_with byte ls

abbrev first_by : ℕ → Bool → List ℕ → List ℕ
first_by byte b first = if b then byte ∷ [] else byte ∷ first

first_alone : (byte : ℕ) (b : Bool) → (rest : List (List ℕ)) × (lines_by byte b [] ≡ first_by byte b [] ∷ rest)
first_alone byte true = ([], refl)
first_alone byte false = ([], refl)

first_more : (byte : ℕ) (b : Bool) (ls : List (List ℕ)) (first : List ℕ) (rest : List (List ℕ)) → ls ≡ first ∷ rest → (rest' : List (List ℕ)) × (lines_by byte b ls ≡ first_by byte b first ∷ rest')
first_more byte true ls first rest is = (ls, refl)
first_more byte false ls first rest is = (rest, ap (begun_with byte) is)

pub lines_first : (byte : ℕ) (text : List ℕ) → (rest : List (List ℕ)) × (lines (byte ∷ text) ≡ first_line (byte ∷ text) ∷ rest)
lines_first byte [] = first_alone byte (byte == 10)
lines_first byte (c ∷ text) =
    let t = lines_first c text in
    first_more byte (byte == 10) (lines (c ∷ text)) (first_line (c ∷ text)) t.0 t.1

-- it is as much of the text as its length says
taken_more : (byte : ℕ) (b : Bool) (text first : List ℕ) → take (length first) text ≡ first → take (length (first_by byte b first)) (byte ∷ text) ≡ first_by byte b first
taken_more byte true text first is = refl
taken_more byte false text first is = ap (λ (t : List ℕ). byte ∷ t) is

pub first_taken : (text : List ℕ) → take (length (first_line text)) text ≡ first_line text
first_taken [] = refl
first_taken (byte ∷ text) = taken_more byte (byte == 10) text (first_line text) (first_taken text)

inside_more : (byte : ℕ) (b : Bool) (n : ℕ) (first : List ℕ) → length first ≤ n → length (first_by byte b first) ≤ suc n
inside_more byte true n first le = omega arith
inside_more byte false n first le = omega arith

pub first_inside : (text : List ℕ) → length (first_line text) ≤ length text
first_inside [] = omega arith
first_inside (byte ∷ text) = inside_more byte (byte == 10) (length text) (first_line text) (first_inside text)

-- a text has at most as many lines as bytes
begun_long : (byte : ℕ) (ls : List (List ℕ)) → length (begun_with byte ls) ≤ suc (length ls)
begun_long byte [] = omega arith
begun_long byte (x ∷ ls) = omega arith

few_more : (byte : ℕ) (b : Bool) (n : ℕ) (ls : List (List ℕ)) → length ls ≤ n → length (lines_by byte b ls) ≤ suc n
few_more byte true n ls le = omega arith
few_more byte false n ls le = let u = begun_long byte ls in omega arith

pub few_lines : (text : List ℕ) → length (lines text) ≤ length text
few_lines [] = omega arith
few_lines (byte ∷ text) = few_more byte (byte == 10) (length text) (lines text) (few_lines text)
