-- A whole text with the lines of the text so far goes on with the line of a step that may come next.
use Rattle.std.proofs.Common.{◌≡◌, ℕ, List, [], ◌∷◌, ◌++◌, refl, sym, ap, ◌∙◌, subst, append_assoc}
use Rattle.std.proofs.lemmas.List.{append-nil}
use Rattle.nested_jobs.specs.Journals as steps
use Rattle.board_rules.specs.Entries.{Step}
use Rattle.board_rules.specs.Keys.{IsKey, Key}
use Rattle.board_rules.specs.Legal.{AreLegal, entries_from, journal_of, state_after}
use Rattle.board_rules.specs.declared.entry.Entry.{Entry}
use Rattle.board_rules.specs.declared.entry.Entry.TheVariants.{Claim, Finish}
use Rattle.worker_crew.specs.Laws.{BoardLaws}
use Rattle.quiescent_driver.specs.Journals.{entry_line, journal_text}
use Rattle.journal_laws.specs.Lines.{EntriesAreLines, HasPlainPath, HavePlainPaths, JournalsHavePlainPaths, lines}
use Rattle.journal_laws.proofs.Joining.{journal-append, text-append}
use Rattle.journal_laws.proofs.Longer.{legal_front}

-- a step has one entry
pub has_entry : (key : Key) (laws : BoardLaws key) (taken : List Step) (e : Step) → AreLegal key taken → AreLegal key (taken ++ e ∷ []) → (entry : Entry) × (journal_of key (taken ++ e ∷ []) ≡ journal_of key taken ++ entry ∷ [])
has_entry key laws taken (steps.Claim w a) legal more = let c = laws.claims taken w a legal more in (Claim w c.0 c.1, c.2)
has_entry key laws taken (steps.Finish w answer) legal more = (Finish w, laws.finishes taken w answer)

last_plain : (entries : List Entry) (entry : Entry) → HavePlainPaths (entries ++ entry ∷ []) → HasPlainPath entry
last_plain [] entry plain = plain.0
last_plain (x ∷ entries) entry plain = last_plain entries entry plain.1

-- ---- how a text goes on after these steps

module _ (key : Key) (is : IsKey key) (laws : BoardLaws key) (lines_are : EntriesAreLines) (plain : JournalsHavePlainPaths) (n : ℕ) (taken : List Step) where
  abbrev so_far : List ℕ
  so_far = journal_text n (journal_of key taken)

  -- by the line of a step that may come next, and then so
  pub record GoesOnBy (rest : List ℕ) : Type 0 where
    pub step : Step
    pub entry : Entry
    pub legal : AreLegal key (taken ++ step ∷ [])
    pub entered : journal_of key (taken ++ step ∷ []) ≡ journal_of key taken ++ entry ∷ []
    pub after : List ℕ
    pub rest_is : rest ≡ entry_line n entry ++ after
    pub line_is : lines (entry_line n entry ++ after) ≡ entry_line n entry ∷ lines after

  one_line : (entry : Entry) → HasPlainPath entry → (after : List ℕ) → lines (entry_line n entry ++ after) ≡ entry_line n entry ∷ lines after
  one_line entry h after = ap (λ (t : List ℕ). lines (t ++ after)) (sym (append-nil (entry_line n entry))) ∙ lines_are n (entry ∷ []) after (h, tt)

  pub by_next : (e : Step) (more : List Step) → AreLegal key (taken ++ e ∷ more) → (later : List ℕ) → (rest : List ℕ) × GoesOnBy rest × (journal_text n (journal_of key (taken ++ e ∷ more)) ++ later ≡ so_far ++ rest)
  by_next e more legal later =
      let moved : taken ++ e ∷ more ≡ (taken ++ e ∷ []) ++ more = sym (append_assoc taken (e ∷ []) more) in
      let all : AreLegal key ((taken ++ e ∷ []) ++ more) = subst (AreLegal key) moved legal in
      let front = legal_front key (taken ++ e ∷ []) more all in
      let before = legal_front key taken (e ∷ []) front in
      let x = has_entry key laws taken e before front in
      let entry : Entry = x.0 in
      let tail : List Entry = entries_from key (state_after key (taken ++ e ∷ [])) more in
      let line : List ℕ = entry_line n entry in
      let journal : journal_of key (taken ++ e ∷ more) ≡ (journal_of key taken ++ entry ∷ []) ++ tail =
      ap (journal_of key) moved ∙ (journal-append key (taken ++ e ∷ []) more ∙ ap (λ (l : List Entry). l ++ tail) x.1) in
      let text : journal_text n (journal_of key (taken ++ e ∷ more)) ≡ (so_far ++ (line ++ [])) ++ journal_text n tail =
      ap (journal_text n) journal ∙ (text-append n (journal_of key taken ++ entry ∷ []) tail ∙ ap (λ (t : List ℕ). t ++ journal_text n tail) (text-append n (journal_of key taken) (entry ∷ []))) in
      let after : List ℕ = journal_text n tail ++ later in
      let plain_entry = last_plain (journal_of key taken) entry (subst HavePlainPaths x.1 (plain key (taken ++ e ∷ []) is front)) in
      let first : (so_far ++ (line ++ [])) ++ journal_text n tail ≡ (so_far ++ line) ++ journal_text n tail = ap (λ (t : List ℕ). (so_far ++ t) ++ journal_text n tail) (append-nil line) in
      let whole : ((so_far ++ line) ++ journal_text n tail) ++ later ≡ so_far ++ (line ++ after) =
      append_assoc (so_far ++ line) (journal_text n tail) later ∙ append_assoc so_far line (journal_text n tail ++ later) in (
        line ++ after,
        record { step = e; entry = entry; legal = front; entered = x.1; after = after; rest_is = refl; line_is = one_line entry plain_entry after },
        ap (λ (t : List ℕ). t ++ later) (text ∙ first) ∙ whole,
      )
