-- The lines of a board, one after the other.
use Rattle.std.proofs.Common.{◌≡◌, ℕ, zero, suc, ◌+◌, ◌-◌, ◌<◌, ◌≤◌, Bool, true, false, List, [], ◌∷◌, ◌++◌, Option, Some, None, is_some, length, take, drop, length-append, length-drop, refl, sym, ap, ◌∙◌, subst, arith}
use Rattle.std.proofs.lemmas.List.{append-nil, take_all}
use Rattle.nested_jobs.specs.Marks.{Marks}
use Rattle.job_rules.specs.Words as words
use Rattle.pisdf_meaning.specs.declared.firing.Firing.{Firing}
use Rattle.pisdf_model.specs.declared.graph.Graphs.{Graphs}
use Rattle.board_rules.specs.Entries.{Step}
use Rattle.board_rules.specs.Keys.{Key}
use Rattle.board_rules.specs.Legal.{journal_of, state_after}
use Rattle.board_rules.specs.declared.entry.Entry.{Entry}
use Rattle.board_rules.specs.declared.entry.Entry.TheVariants.{Claim, Finish}
use Rattle.board_rules.specs.declared.entry.ItemName.TheVariants.{Configure, Compile, Node}
use Rattle.quiescent_driver.specs.Journals.{entry_line, journal_text}
use Rattle.journal_laws.proofs.Joining.{text-append}
use Rattle.audit_job.specs.declared.answer.Answer.{Answer as Own}
use Rattle.journal_audit.specs.Reading.{first_line}
use Rattle.journal_audit.specs.Replays.{HasEnd, HasReplayed, Makes, StopsAt}
use Rattle.journal_audit.specs.Standing.{IsOpenAt}
use Rattle.journal_audit.specs.declared.replay.Replay.{Replay}
use Rattle.journal_audit.proofs.WholeLines.{first_inside, first_taken}

-- each entry's line has two bytes at least
two_bytes : (a b : ℕ) (text : List ℕ) → 2 ≤ length (a ∷ b ∷ text)
two_bytes a b text = omega arith

pub line_long : (n : ℕ) (entry : Entry) → 2 ≤ length (entry_line n entry)
line_long n (Claim worker path (Configure place)) = two_bytes 99 108 (drop 2 (entry_line n (Claim worker path (Configure place))))
line_long n (Claim worker path Compile) = two_bytes 99 108 (drop 2 (entry_line n (Claim worker path Compile)))
line_long n (Claim worker path (Node node)) = two_bytes 99 108 (drop 2 (entry_line n (Claim worker path (Node node))))
line_long n (Finish worker) = two_bytes 102 105 (drop 2 (entry_line n (Finish worker)))

pub take_on : (m n : ℕ) (text : List ℕ) → take (m + n) text ≡ take m text ++ take n (drop m text)
take_on zero n text = let e : 0 + n ≡ n = omega arith in ap (λ k. take k text) e
take_on (suc m) n [] = none (suc m + n) ∙ sym (none n)
  where
    none : (k : ℕ) → take {A = ℕ} k [] ≡ []
    none zero = refl
    none (suc k) = refl
take_on (suc m) n (x ∷ text) =
    let e : suc m + n ≡ suc (m + n) = omega arith in
    ap (λ k. take k (x ∷ text)) e ∙ ap (λ (t : List ℕ). x ∷ t) (take_on m n text)

-- the rest of a text from a place on, as a part of it is taken
pub rest_is : (n : ℕ) (text : List ℕ) → take (length text - n) (drop n text) ≡ drop n text
rest_is n text = let cut = length-drop n text in take_all (length text - n) (drop n text) (omega arith)

pub nothing_read : (graphs : Graphs) (key : Key) (n : ℕ) (text : List ℕ) → HasReplayed graphs key n text 0 0 []
nothing_read graphs key n text = record { inside = omega arith; text_is = refl; lines_are = refl; few = omega arith }

-- one line more
pub more_read : (graphs : Graphs) (key : Key) (n : ℕ) (text : List ℕ) (bytes lines : ℕ) (taken : List Step) → HasReplayed graphs key n text bytes lines taken → (line : List ℕ) → line ≡ first_line (drop bytes text) → (new : Replay) → (m : Makes graphs key n taken line new)
    → HasReplayed graphs key n text (bytes + length line) (lines + 1) (taken ++ m.step ∷ [])
more_read graphs key n text bytes lines taken r line line_is new m =
    let rest : List ℕ = drop bytes text in
    let fits = first_inside rest in
    let cut = length-drop bytes text in
    let low = r.inside in
    let same = ap (λ (t : List ℕ). length t) line_is in
    let long = line_long n m.entry in
    let own = ap (λ (t : List ℕ). length t) m.line_is in
    let some = r.few in
    let taken_line : take (length line) rest ≡ line = ap (λ (t : List ℕ). take (length t) rest) line_is ∙ (first_taken rest ∙ sym line_is) in
    let entries = m.entered in
    let count = ap (λ (l : List Entry). length l) entries in
    let more = length-append (journal_of key taken) (m.entry ∷ []) in
    let were = r.lines_are in
    record {
      inside = omega arith;
      text_is = take_on bytes (length line) text
          ∙ ((λ x. r.text_is x ++ taken_line x)
          ∙ (ap (λ (t : List ℕ). journal_text n (journal_of key taken) ++ t) (m.line_is ∙ sym (append-nil (entry_line n m.entry)))
          ∙ (sym (text-append n (journal_of key taken) (m.entry ∷ [])) ∙ ap (journal_text n) (sym entries))));
      lines_are = omega arith;
      few = omega arith;
    }

-- a line of an entry isn't empty
pub line_some : (n : ℕ) (line : List ℕ) (entry : Entry) → line ≡ entry_line n entry → 0 < length line
line_some n line entry is = let a = line_long n entry in let b = ap (λ (t : List ℕ). length t) is in omega arith

-- whether the top job has ended
pub open_so : (m : Marks Firing words.Answer) (end : Option Own) → end ≡ None → HasEnd m end → IsOpenAt m []
open_so m end none has = subst (HasEnd m) none has

pub none_of : (end : Option Own) (b : Bool) → is_some end ≡ b → b ≡ false → end ≡ None
none_of None b is lacks = refl
none_of (Some answer) b is lacks = let e : true ≡ false = is ∙ lacks in absurd (cc)

pub stops_ended : (key : Key) (n : ℕ) (taken : List Step) (rest : List ℕ) (end : Option Own) → is_some end ≡ true → HasEnd (state_after key taken).marks end → StopsAt key n taken rest end
stops_ended key n taken rest None some has = absurd (cc)
stops_ended key n taken rest (Some answer) some has = has
