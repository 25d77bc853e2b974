-- What a line is to the replay of a board.
use Rattle.std.proofs.Common.{◌≡◌, ◌≢◌, ℕ, ◌<◌, ◌^◌, Bool, true, false, not, List, [], ◌∷◌, ◌++◌, length, get_or, Option, Some, None, refl, sym, ap, ◌∙◌, subst, arith}
use Rattle.nested_jobs.specs.Journals as steps
use Rattle.nested_jobs.specs.Journals.{MayClaim, MayFinish}
use Rattle.nested_jobs.specs.Rules.{Place}
use Rattle.job_rules.specs.Doing.{Answers}
use Rattle.pisdf_model.specs.declared.graph.Graphs.{Graphs}
use Rattle.board_rules.specs.Board.{OpenJobs, RunsAs}
use Rattle.board_rules.specs.Entries.{Step}
use Rattle.board_rules.specs.Keys.{Key, rules}
use Rattle.board_rules.specs.Legal.{AreLegal, journal_of, state_after}
use Rattle.board_rules.specs.declared.entry.Entry.{Entry}
use Rattle.board_rules.specs.declared.entry.Entry.TheVariants.{Claim, Finish}
use Rattle.board_rules.specs.declared.entry.ItemName.TheVariants.{Compile}
use Rattle.worker_crew.specs.Laws.{BoardLaws}
use Rattle.quiescent_driver.specs.Journals.{entry_line}
use Rattle.journal_laws.specs.Lines.{AreAlike, BeginningsTell, HasSmallWorker, LinesBegin, claim_begin, entry_begin}
use Rattle.journal_laws.proofs.Longer.{legal_front, legal_last}
use Rattle.journal_audit.specs.Reading.{NoStepWrites}
use Rattle.journal_audit.specs.Replays.{Replays}
use Rattle.journal_audit.specs.Stepping.{Begins, ClaimsTo, FinishesTo, IsSpeaker, StepsTo, line_start}
use Rattle.journal_audit.specs.Table.{held_as, table_of}
use Rattle.journal_audit.specs.declared.replay.Replay.{Replay}
use Rattle.journal_audit.specs.declared.table.Run.{Run}
use Rattle.journal_audit.proofs.Claims.{last_one}

pub not_false : (b : Bool) → not b ≡ false → b ≡ true
not_false true e = refl
not_false false e = absurd (cc)

idle_of : (table : OpenJobs) (o : Option Run) (p : Option Place) → p ≡ None → RunsAs table p (held_as o) → o ≡ None
idle_of table None p none runs = refl
idle_of table (Some run) p none runs = let some = runs.2 in absurd (cc)

busy_of : (table : OpenJobs) (o : Option Run) (p : Option Place) (a : Place) → p ≡ Some a → RunsAs table p (held_as o) → (run : Run) × (o ≡ Some run)
busy_of table None p a some runs = absurd (cc)
busy_of table (Some run) p a some runs = (run, refl)

-- an entry tells of a step whose it is, and whether it is a claim
abbrev Tells : Step → Entry → Type 0
Tells (steps.Claim w a) (Claim v path item) = w ≡ v
Tells (steps.Claim w a) (Finish v) = ⊥
Tells (steps.Finish w answer) (Claim v path item) = ⊥
Tells (steps.Finish w answer) (Finish v) = w ≡ v

module _ (graphs : Graphs) (key : Key) (taken : List Step) (replay : Replay) (r : Replays graphs key taken replay) (laws : BoardLaws key) (begin : LinesBegin) (tell : BeginningsTell) (n : ℕ) (small : n < 2 ^ 32) where
  abbrev running : List (Option Run)
  running = replay.running.items

  abbrev at : ℕ → Option Run
  at w = get_or running w None

  few : (w : ℕ) → w < key.workers → w < 2 ^ 32
  few w lt = let most = r.keeps.is_key.few in omega arith

  tells : (e : Step) (entry : Entry) → AreLegal key (taken ++ e ∷ []) → journal_of key (taken ++ e ∷ []) ≡ journal_of key taken ++ entry ∷ [] → Tells e entry
  tells (steps.Claim w a) entry legal told =
      let c = laws.claims taken w a (legal_front key taken (steps.Claim w a ∷ []) legal) legal in
      subst (Tells (steps.Claim w a)) (last_one (journal_of key taken) (Claim w c.0 c.1) entry (sym c.2 ∙ told)) refl
  tells (steps.Finish w answer) entry legal told =
      subst (Tells (steps.Finish w answer)) (last_one (journal_of key taken) (Finish w) entry (sym (laws.finishes taken w answer) ∙ told)) refl

  -- its line begins as the next one of its worker
  record Own (e : Step) (entry : Entry) : Type 0 where
    worker : ℕ
    is_worker : worker < length running
    start : entry_begin n entry ≡ line_start n worker (at worker)
    entry_small : HasSmallWorker entry

  own : (e : Step) (entry : Entry) → AreLegal key (taken ++ e ∷ []) → Tells e entry → Own e entry
  own (steps.Claim w a) (Claim v path item) legal same =
      let may : MayClaim (rules key) key.workers (state_after key taken) w a = legal_last key taken (steps.Claim w a) legal in
      let lt = may.is_worker in
      let each = r.one_each in
      let none = idle_of (table_of replay.rows.items) (at w) ((state_after key taken).running w) may.runs_none (r.keeps.kept.runs w lt) in
      record {
        worker = w;
        is_worker = omega arith;
        start = ap (claim_begin n) (sym same) ∙ ap (line_start n w) (sym none);
        entry_small = subst (λ x. x < 2 ^ 32) same (few w lt);
      }
  own (steps.Claim w a) (Finish v) legal same = absurd same
  own (steps.Finish w answer) (Claim v path item) legal same = absurd same
  own (steps.Finish w answer) (Finish v) legal same =
      let may : MayFinish (rules key) (Answers key.graphs.graphs) key.workers (state_after key taken) w answer = legal_last key taken (steps.Finish w answer) legal in
      let lt = may.is_worker in
      let each = r.one_each in
      let some = busy_of (table_of replay.rows.items) (at w) ((state_after key taken).running w) may.place may.runs (r.keeps.kept.runs w lt) in
      record {
        worker = w;
        is_worker = omega arith;
        start = ap (λ x. entry_line n (Finish x)) (sym same) ∙ ap (line_start n w) (sym some.1);
        entry_small = subst (λ x. x < 2 ^ 32) same (few w lt);
      }

  begins : (e : Step) (entry : Entry) (o : Own e entry) (line : List ℕ) → line ≡ entry_line n entry → Begins n running line o.worker
  begins e entry o line is =
      let b = begin n entry in
      (b.0, is ∙ (b.1 ∙ ap (λ (t : List ℕ). t ++ b.0) o.start))

  -- nobody's next line begins so
  pub nobody : (line : List ℕ) → IsSpeaker n running line None → NoStepWrites key n taken line
  nobody line none e entry legal told is =
      let o = own e entry legal (tells e entry legal told) in
      none o.worker o.is_worker (begins e entry o line is)

  -- one worker's does
  module _ (line : List ℕ) (v : ℕ) (speaks : IsSpeaker n running line (Some v)) where
    v_small : v < 2 ^ 32
    v_small = let lt = speaks.0 in let e = r.one_each in let most = r.keeps.is_key.few in omega arith

    alike : (e : Step) (entry other : Entry) → AreLegal key (taken ++ e ∷ []) → Tells e entry → line ≡ entry_line n entry → entry_begin n other ≡ line_start n v (at v) → HasSmallWorker other → AreAlike other entry
    alike e entry other legal told is start other_small =
        let o = own e entry legal told in
        let b = begin n entry in
        let mine = speaks.1 in
        let same : entry_begin n other ++ mine.0 ≡ entry_begin n entry ++ b.0 = ap (λ (t : List ℕ). t ++ mine.0) start ∙ (sym mine.1 ∙ (is ∙ b.1)) in
        (tell n n other entry mine.0 b.0 small small other_small o.entry_small same).1

    pub claims_only : at v ≡ None → (took : Replay) → ClaimsTo graphs key n taken v line false took → NoStepWrites key n taken line
    claims_only none took refuses e entry legal told is = go e entry legal told is (tells e entry legal told)
      where
        go : (e : Step) (entry : Entry) → AreLegal key (taken ++ e ∷ []) → journal_of key (taken ++ e ∷ []) ≡ journal_of key taken ++ entry ∷ [] → line ≡ entry_line n entry → Tells e entry → ⊥
        go (steps.Claim w a) (Claim u path item) legal told is same =
            let like = alike (steps.Claim w a) (Claim u path item) (Claim v [] Compile) legal same is (sym (ap (line_start n v) none)) v_small in
            let worker : w ≡ v = same ∙ sym like in
            refuses a (Claim u path item) (subst (λ x. AreLegal key (taken ++ steps.Claim x a ∷ [])) worker legal) (subst (λ x. journal_of key (taken ++ steps.Claim x a ∷ []) ≡ journal_of key taken ++ Claim u path item ∷ []) worker told) is
        go (steps.Claim w a) (Finish u) legal told is same = absurd same
        go (steps.Finish w answer) (Claim u path item) legal told is same = absurd same
        go (steps.Finish w answer) (Finish u) legal told is same =
            absurd (alike (steps.Finish w answer) (Finish u) (Claim v [] Compile) legal same is (sym (ap (line_start n v) none)) v_small)

    pub finish_only : (run : Run) → at v ≡ Some run → line ≢ entry_line n (Finish v) → NoStepWrites key n taken line
    finish_only run some differs e entry legal told is = go e entry legal is (tells e entry legal told)
      where
        go : (e : Step) (entry : Entry) → AreLegal key (taken ++ e ∷ []) → line ≡ entry_line n entry → Tells e entry → ⊥
        go (steps.Claim w a) (Claim u path item) legal is same =
            absurd (alike (steps.Claim w a) (Claim u path item) (Finish v) legal same is (sym (ap (line_start n v) some)) v_small)
        go (steps.Claim w a) (Finish u) legal is same = absurd same
        go (steps.Finish w answer) (Claim u path item) legal is same = absurd same
        go (steps.Finish w answer) (Finish u) legal is same =
            let like = alike (steps.Finish w answer) (Finish u) (Finish v) legal same is (sym (ap (line_start n v) some)) v_small in
            differs (is ∙ ap (λ x. entry_line n (Finish x)) (sym like))

    pub by_claim : at v ≡ None → (took : Bool) (new : Replay) → ClaimsTo graphs key n taken v line took new → StepsTo graphs key n taken line took new
    by_claim none true new made = made
    by_claim none false new refuses = claims_only none new refuses

    pub by_finish : (run : Run) → at v ≡ Some run → (took : Bool) (new : Replay) → FinishesTo graphs key n taken v line took new → StepsTo graphs key n taken line took new
    by_finish run some true new made = made
    by_finish run some false new refuses = finish_only run some refuses
