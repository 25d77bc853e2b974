-- The verdict on a text, by how far it was read.
use Rattle.std.proofs.Common.{◌≡◌, ⊎_elim, ℕ, ◌+◌, ◌<◌, ◌≤◌, ℤ, List, [], ◌∷◌, ◌++◌, length, drop, length-drop, refl, sym, ap, ◌∙◌, subst, arith}
use Rattle.std.proofs.lemmas.Bool.{cases_lt}
use Rattle.std.proofs.lemmas.List.{take-append-drop, take_all}
use Rattle.kernel_gate.specs.Signed.{SignatureView}
use Rattle.pisdf_model.specs.declared.graph.Graphs.{Graphs}
use Rattle.board_rules.specs.Keys.{IsKey, Key}
use Rattle.worker_crew.specs.Laws.{BoardsHaveLaws}
use Rattle.quiescent_driver.specs.Journals.{key_at}
use Rattle.journal_laws.specs.Lines.{EntriesAreLines, JournalsHavePlainPaths, lines}
use Rattle.journal_laws.specs.Texts.{TextsAreOne, TextsGoOn, WholeTextsEnd, text_so_far}
use Rattle.journal_laws.proofs.Onward.{RunGiven, is_key}
use Rattle.journal_audit.specs.FirstBad.{IsFirstBad, IsWholeWith}
use Rattle.journal_audit.specs.Reading.{FitsReading, HasReadAll, HasReadPart, HasReadUp}
use Rattle.journal_audit.specs.Verdicts.{IsVerdict}
use Rattle.journal_audit.specs.declared.auditing.Next.{Next}
use Rattle.journal_audit.specs.declared.auditing.Next.TheVariants as next
use Rattle.journal_audit.specs.declared.auditing.Reading.{Reading}
use Rattle.journal_audit.specs.declared.verdict.Verdict.{Verdict}
use Rattle.journal_audit.specs.declared.verdict.Verdict.TheVariants.{Legal, Illegal}
use Rattle.journal_audit.proofs.Judging.{bad_after, bad_part}

pub record JudgeLaws : Type 0 where
  pub lines_are : EntriesAreLines
  pub plain : JournalsHavePlainPaths
  pub go_on : TextsGoOn
  pub one : TextsAreOne
  pub ends : WholeTextsEnd
  pub boards : BoardsHaveLaws

-- what is told of what was read
pub record Tells (journal : List ℕ) (reading : Reading) (nxt : Next) (v : Verdict) : Type 0 where
  pub legal : nxt ≡ next.Nothing → reading.bytes ≡ length journal → v ≡ Legal reading.boards reading.lines
  pub longer : nxt ≡ next.Nothing → reading.bytes < length journal → v ≡ Illegal (reading.lines + 1)
  pub bad : nxt ≡ next.Bad → v ≡ Illegal (reading.lines + 1)

module _ (graphs : Graphs) (kernels : List SignatureView) (streams : List (List ℤ)) (iterations workers : ℕ) (given : RunGiven graphs kernels streams iterations workers) (laws : JudgeLaws) (journal : List ℕ) (reading : Reading) where
  abbrev Is : List ℕ → Verdict → Type 0
  Is text v = IsVerdict graphs kernels streams iterations workers text v

  abbrev Bad : List ℕ → ℕ → Type 0
  Bad text n = IsFirstBad graphs kernels streams iterations workers text n

  whole_is : (h : HasReadAll graphs kernels streams iterations workers journal reading) → reading.bytes ≡ length journal → Is journal (Legal reading.boards reading.lines)
  whole_is h all =
      let same : h.text ≡ journal = sym h.read.text_is ∙ take_all reading.bytes journal (omega arith) in
      let P : List ℕ → Type 0 = λ t. IsWholeWith graphs kernels streams iterations workers t reading.boards reading.lines in
      subst P same record { whole = h.whole; boards_are = h.boards_are; entries_are = h.read.lines_are }

  longer_is : (h : HasReadAll graphs kernels streams iterations workers journal reading) → reading.bytes < length journal → Is journal (Illegal (reading.lines + 1))
  longer_is h less = go (drop reading.bytes journal) refl
    where
      go : (rest : List ℕ) → drop reading.bytes journal ≡ rest → Bad journal (reading.lines + 1)
      go [] e =
          let cut = length-drop reading.bytes journal in
          let none = ap (λ (t : List ℕ). length t) e in
          absurd (omega arith)
      go (byte ∷ more) e =
          let same : h.text ++ byte ∷ more ≡ journal = (λ i. sym h.read.text_is i ++ sym e i) ∙ take-append-drop reading.bytes journal in
          let number : length (lines h.text) + 1 ≡ reading.lines + 1 = ap (λ (k : ℕ). k + 1) (sym h.read.lines_are) in
          subst (Bad journal) number (subst (λ (t : List ℕ). Bad t (length (lines h.text) + 1)) same
          (bad_after graphs kernels streams iterations workers given.may laws.ends h.text h.whole h.read.whole_lines byte more))

  part_is : (h : HasReadPart graphs kernels streams iterations workers journal reading) → Is journal (Illegal (reading.lines + 1))
  part_is h =
      let key : Key = key_at graphs kernels streams workers (length h.texts) h.state in
      let is : IsKey key = is_key graphs kernels streams iterations workers given (length h.texts) h.come.before h.state h.come.done h.come.checks in
      let so_far : List ℕ = text_so_far key h.texts h.taken in
      let same : so_far ++ drop reading.bytes journal ≡ journal = ap (λ (t : List ℕ). t ++ drop reading.bytes journal) (sym h.read.text_is) ∙ take-append-drop reading.bytes journal in
      let number : length (lines so_far) + 1 ≡ reading.lines + 1 = ap (λ (k : ℕ). k + 1) (sym h.read.lines_are) in
      subst (Bad journal) number (subst (λ (t : List ℕ). Bad t (length (lines so_far) + 1)) same
      (bad_part graphs kernels streams iterations workers given.may laws.go_on laws.one laws.lines_are laws.plain h.texts h.state h.taken h.come is (laws.boards key is) h.not_ended h.read.whole_lines (drop reading.bytes journal) h.none_next))

  pub judged : (nxt : Next) → HasReadUp graphs kernels streams iterations workers journal reading nxt → (v : Verdict) → Tells journal reading nxt v → Is journal v
  judged next.Board h v t = absurd h
  judged next.Nothing h v t = ⊎_elim
      (λ (less : reading.bytes < length journal). subst (Is journal) (sym (t.longer refl less)) (longer_is h less))
      (λ (past : length journal ≤ reading.bytes). let low = h.read.inside in let all : reading.bytes ≡ length journal = omega arith in subst (Is journal) (sym (t.legal refl all)) (whole_is h all))
      (cases_lt reading.bytes (length journal))
  judged next.Bad h v t = subst (Is journal) (sym (t.bad refl)) (part_is h)

-- what was read is of the text's bytes
pub fits : (graphs : Graphs) (kernels : List SignatureView) (streams : List (List ℤ)) (iterations workers : ℕ) (journal : List ℕ) (reading : Reading) (nxt : Next) → HasReadUp graphs kernels streams iterations workers journal reading nxt → FitsReading journal reading
fits graphs kernels streams iterations workers journal reading next.Board h = absurd h
fits graphs kernels streams iterations workers journal reading next.Nothing h = record { inside = h.read.inside; few = h.read.few }
fits graphs kernels streams iterations workers journal reading next.Bad h = record { inside = h.read.inside; few = h.read.few }
