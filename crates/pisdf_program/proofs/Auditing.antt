-- What the judgement of a journal comes to.
use Rattle.std.proofs.Common.{◌≡◌, ℕ, ◌≤◌, ℤ, List, Option, Some, None, Result, Ok, Err, String, Global, true, refl, sym, ap, ◌∙◌, subst}
use Rattle.kernel_gate.specs.Table.{the_signatures}
use Rattle.kernel_gate.specs.Signed.{SignatureView}
use Rattle.pisdf_model.specs.declared.graph.Graphs.{Graphs}
use Rattle.journal_audit.specs.FirstBad.{IsFirstBad, IsWholeWith}
use Rattle.journal_audit.specs.Verdicts.{IsVerdict}
use Rattle.journal_audit.specs.declared.verdict.Verdict.{Verdict}
use Rattle.journal_audit.specs.declared.verdict.Verdict.TheVariants as verdict
use Rattle.std.specs.declared.alloc.AllocError.{AllocError}
use Rattle.quiescent_driver.proofs.Runs.{rose_since}
use Rattle.pisdf_program.specs.Loaded.{FaultsOnly, StopsReading, is_answer}
use Rattle.pisdf_program.specs.Result.{AreTold, Audits, AuditsText, FromFiles, IsTold, Outcome, ThreeAreTold, judged, read_journal, refused}
use Rattle.pisdf_program.specs.Words.{Audit}
use Rattle.pisdf_program.specs.Worked.{CountRose, FilesRose, IsThere, RoseAt, Stopped, Works, file_among, file_of_three}
use Rattle.pisdf_program.specs.declared.load.Input.{Input}
use Rattle.pisdf_program.specs.declared.status.Status.{Status}
use Rattle.pisdf_program.specs.declared.status.Which.{Which}
use Rattle.pisdf_program.specs.declared.status.Which.TheVariants.{Graph, Tokens, Journal}
use Rattle.pisdf_program.proofs.Working.{Gives, comes_from, goes_on, reads_input, stops, works_for}

abbrev File : Type 0
File = Option (List ℕ)

abbrev given : Verdict → Result Verdict AllocError
given v = Ok v

-- reading the journal, where it is told, gives this
abbrev pub JournalGives : File → Result (List ℕ) Status → Type 0
JournalGives journal text = (told : List ℕ) → journal ≡ Some told → read_journal told ≡ text

audits_text : (iterations workers : ℕ) (journal : File) (input : Input) (text : Result (List ℕ) Status) → JournalGives journal text → (o : Outcome)
    → Audits iterations workers journal input o → AuditsText iterations workers input text o
audits_text iterations workers None input text h o a = absurd a
audits_text iterations workers (Some bytes) input text h o a = subst (λ r. AuditsText iterations workers input r o) (h bytes refl) a

text_audits : (iterations workers : ℕ) (journal : File) (input : Input) (text : Result (List ℕ) Status) → JournalGives journal text → IsTold journal → (o : Outcome)
    → AuditsText iterations workers input text o → Audits iterations workers journal input o
text_audits iterations workers None input text h t o a = absurd t
text_audits iterations workers (Some bytes) input text h t o a = subst (λ r. AuditsText iterations workers input r o) (sym (h bytes refl)) a

module _ (iterations workers : ℕ) (graph tokens journal : File) (input : Input) (gives : Gives graph tokens input) where
  abbrev Expected : Outcome → Type 0
  Expected = FromFiles (Audits iterations workers journal) graph tokens

  text_of : (text : Result (List ℕ) Status) → JournalGives journal text → (o : Outcome) → Expected o → AuditsText iterations workers input text o
  text_of text h o e = audits_text iterations workers journal input text h o (goes_on (Audits iterations workers journal) graph tokens input gives o e)

  outcome_of : (text : Result (List ℕ) Status) → JournalGives journal text → ThreeAreTold graph tokens journal → (o : Outcome) → AuditsText iterations workers input text o → Expected o
  outcome_of text h t o a =
      comes_from (Audits iterations workers journal) graph tokens input gives t.0 o
      (text_audits iterations workers journal input text h (t.1 input (reads_input graph tokens input gives t.0)) o a)

  -- the journal can't be read
  pub journal_stops : (w : File) (f : ℕ) (s : Status) → StopsReading s → ((told : List ℕ) → journal ≡ Some told → is_answer s ≡ true → read_journal told ≡ Err s) → Stopped Expected w w f f s
  journal_stops w f s ok h = stops Expected w f s ok (λ o e a. text_of (Err s) (λ told is. h told is a) o e)

  pub journal_there : (s : Status) → ((told : List ℕ) → journal ≡ Some told → is_answer s ≡ true → read_journal told ≡ Err s) → IsThere (ThreeAreTold graph tokens journal) Expected (Err s)
  journal_there s h = λ t a. (refused s, outcome_of (Err s) (λ told is. h told is a) t (refused s) refl)

  -- it is judged
  module _ (text : List ℕ) (v : Verdict) (reads : JournalGives journal (Ok text)) where
    pub verdict_works : (had has : File) (b n : ℕ) (r : Result (String Global) Status)
        → ((other : Verdict) → IsVerdict input.graphs the_signatures input.streams iterations workers text other → v ≡ other)
        → Works (λ o. o ≡ judged v) had has b n r → Works Expected had has b n r
    verdict_works had has b n r only h =
        works_for (λ o. o ≡ judged v) Expected had has b n r (λ o e. let t = text_of (Ok text) reads o e in t.2 ∙ ap judged (sym (only t.0 t.1))) h

    pub verdict_there : (r : Result (String Global) Status) → IsVerdict input.graphs the_signatures input.streams iterations workers text v → IsThere (ThreeAreTold graph tokens journal) Expected r
    verdict_there (Ok line) is = λ t. (judged v, outcome_of (Ok text) reads t (judged v) (v, is, refl))
    verdict_there (Err s) is = λ t a. (judged v, outcome_of (Ok text) reads t (judged v) (v, is, refl))

-- what is there where two files are told is there where three are
pub there_of_three : (graph tokens journal : File) (expected : Outcome → Type 0) (s : Status) → IsThere (AreTold graph tokens) expected (Err s) → IsThere (ThreeAreTold graph tokens journal) expected (Err s)
there_of_three graph tokens journal expected s h = λ t a. h t.0 a

-- ---- the auditor's verdict

module _ (graphs : Graphs) (kernels : List SignatureView) (streams : List (List ℤ)) (iterations workers : ℕ) (text : List ℕ) where
  -- a verdict is that of the text
  verdict_is : (v : Verdict) → ((boards entries : ℕ) → given v ≡ given (verdict.Legal boards entries) → IsWholeWith graphs kernels streams iterations workers text boards entries)
      → ((line : ℕ) → given v ≡ given (verdict.Illegal line) → IsFirstBad graphs kernels streams iterations workers text line) → IsVerdict graphs kernels streams iterations workers text v
  verdict_is (verdict.Legal boards entries) legal illegal = legal boards entries refl
  verdict_is (verdict.Illegal line) legal illegal = illegal line refl

  -- and the only one
  verdict_only : (v : Verdict) → ((boards entries : ℕ) → IsWholeWith graphs kernels streams iterations workers text boards entries → v ≡ verdict.Legal boards entries)
      → ((line : ℕ) → IsFirstBad graphs kernels streams iterations workers text line → v ≡ verdict.Illegal line) → (other : Verdict) → IsVerdict graphs kernels streams iterations workers text other → v ≡ other
  verdict_only v legal illegal (verdict.Legal boards entries) is = legal boards entries is
  verdict_only v legal illegal (verdict.Illegal line) is = illegal line is

module _ (graphs others : Graphs) (kernels table : List SignatureView) (streams feeds : List (List ℤ)) (iterations workers : ℕ) (text bytes : List ℕ) (gs : graphs ≡ others) (ks : kernels ≡ table) (ss : streams ≡ feeds)
    (ts : text ≡ bytes) where
  same_verdict : (v : Verdict) → IsVerdict graphs kernels streams iterations workers text v → IsVerdict others table feeds iterations workers bytes v
  same_verdict v h =
      subst (λ t. IsVerdict others table feeds iterations workers t v) ts
      (subst (λ s. IsVerdict others table s iterations workers text v) ss
      (subst (λ k. IsVerdict others k streams iterations workers text v) ks (subst (λ g. IsVerdict g kernels streams iterations workers text v) gs h)))

  back_verdict : (v : Verdict) → IsVerdict others table feeds iterations workers bytes v → IsVerdict graphs kernels streams iterations workers text v
  back_verdict v h =
      subst (λ g. IsVerdict g kernels streams iterations workers text v) (sym gs)
      (subst (λ k. IsVerdict others k streams iterations workers text v) (sym ks)
      (subst (λ s. IsVerdict others table s iterations workers text v) (sym ss) (subst (λ t. IsVerdict others table feeds iterations workers t v) (sym ts) h)))

  pub verdict_given : (v : Verdict) → ((boards entries : ℕ) → given v ≡ given (verdict.Legal boards entries) → IsWholeWith graphs kernels streams iterations workers text boards entries)
      → ((line : ℕ) → given v ≡ given (verdict.Illegal line) → IsFirstBad graphs kernels streams iterations workers text line) → IsVerdict others table feeds iterations workers bytes v
  verdict_given v legal illegal = same_verdict v (verdict_is graphs kernels streams iterations workers text v legal illegal)

  pub no_other_verdict : (v : Verdict) → ((boards entries : ℕ) → IsWholeWith graphs kernels streams iterations workers text boards entries → v ≡ verdict.Legal boards entries)
      → ((line : ℕ) → IsFirstBad graphs kernels streams iterations workers text line → v ≡ verdict.Illegal line) → (other : Verdict) → IsVerdict others table feeds iterations workers bytes other → v ≡ other
  no_other_verdict v legal illegal other h = verdict_only graphs kernels streams iterations workers text v legal illegal other (back_verdict other h)

-- ---- the counts of the files

among_three : (graph tokens journal : List ℕ) (before now : List ℕ → ℕ) (w : Which) → RoseAt before now (file_among graph tokens w) → RoseAt before now (file_of_three graph tokens journal w)
among_three graph tokens journal before now Graph r = r
among_three graph tokens journal before now Tokens r = r
among_three graph tokens journal before now Journal r = absurd r

pub two_rose : (graph tokens journal : List ℕ) (n workers : ℕ) (before now : List ℕ → ℕ) (s : Status) → FilesRose graph tokens before now s → CountRose (Some (Audit graph tokens n workers journal)) before now s
two_rose graph tokens journal n workers before now s h = λ w e. among_three graph tokens journal before now w (h w e)

pub journal_rose : (graph tokens journal : List ℕ) (n workers : ℕ) (before mid now : List ℕ → ℕ) (s : Status) → before journal ≤ mid journal → FaultsOnly Journal (mid journal) (now journal) s
    → CountRose (Some (Audit graph tokens n workers journal)) before now s
journal_rose graph tokens journal n workers before mid now s le h = λ w e.
    let f = subst (FaultsOnly Journal (mid journal) (now journal)) e h in
    subst (λ (v : Which). RoseAt before now (file_of_three graph tokens journal v)) (sym f.0) (rose_since (before journal) (mid journal) (now journal) le f.1)
