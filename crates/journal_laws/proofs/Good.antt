-- What each state of a legal journal keeps: busy items are those that workers run, each run by one, and what they run is work.
use Rattle.std.proofs.Common.{◌≡◌, ◌≢◌, ℕ, Option, Some, None, List, [], ◌∷◌, ◌++◌, refl, sym, ◌∙◌, ap, subst, ⊎_elim, append_assoc, if◌then◌else◌}
use Rattle.std.proofs.lemmas.Bool.{ne_eqb}
use Rattle.std.proofs.lemmas.List.{append-nil}
use Rattle.pisdf_meaning.specs.declared.firing.Firing.{Firing}
use Rattle.nested_jobs.specs.Rules.{Place}
use Rattle.nested_jobs.specs.Marks.{Busy, Free, Marks}
use Rattle.nested_jobs.specs.Steps.{claimed, finished}
use Rattle.nested_jobs.specs.Journals as steps
use Rattle.nested_jobs.specs.Journals.{MayClaim, MayFinish, after, assign, finish_of}
use Rattle.nested_jobs.specs.Meanings.{Lawful}
use Rattle.job_rules.specs.Doing.{Answers}
use Rattle.job_rules.specs.Meant.{rank}
use Rattle.job_rules.specs.Words.{Answer, Work}
use Rattle.board_lock.specs.Meant.{entries_of}
use Rattle.board_rules.specs.Entries.{BoardState, Step}
use Rattle.board_rules.specs.Keys.{Key, rules, top_job}
use Rattle.board_rules.specs.Legal.{AreLegal, state_after}
use Rattle.board_rules.specs.declared.entry.Entry.{Entry}
use Rattle.board_rules.specs.declared.entry.Entry.TheVariants.{Claim, Finish}
use Rattle.firing_board.specs.Locking.{worker_of}
use Rattle.firing_board.specs.Runs.{RunsWork}
use Rattle.worker_crew.specs.Laws.{BoardLaws}
use Rattle.journal_laws.proofs.Counting.{IsShort, answers_short, items_few, most, outcome_short}
use Rattle.journal_laws.proofs.Longer.{assign_at, legal_front, legal_last, next_state}
use Rattle.journal_laws.proofs.Lighter.{begun, claimed_stays, finished_stays}
use Rattle.journal_laws.proofs.Within.{CallsKeep, IsWithin, claimed_within, finished_within, start_within}

some_same : (a c : Place) → Some a ≡ Some c → a ≡ c
some_same a c e = cc

-- jobs of which something holds, that holds of the top job, and of each job that such a job calls
pub record AreSuch (key : Key) (R : Firing → Type 0) : Type 0 where
  pub top : R (top_job key)
  pub calls : CallsKeep (rules key) (most key.graphs.graphs) IsShort R

pub all_such : (key : Key) → AreSuch key (λ job. Unit {0})
all_such key = record { top = tt; calls = λ job v i d h e. tt }

module _ (key : Key) (law : Lawful (rules key) (rank key.graphs.graphs)) (laws : BoardLaws key) (R : Firing → Type 0) (such : AreSuch key R) where
  abbrev pub Within : Marks Firing Answer → Type 0
  Within m = IsWithin (rules key) (most key.graphs.graphs) IsShort R m

  pub record IsGood (s : BoardState) : Type 0 where
    pub within : Within s.marks
    pub busy : (w : ℕ) (a : Place) → s.running w ≡ Some a → s.marks a ≡ Busy
    pub apart : (w u : ℕ) (a : Place) → s.running w ≡ Some a → s.running u ≡ Some a → w ≡ u
    pub works : (w : ℕ) (a : Place) → s.running w ≡ Some a → (work : Work) × RunsWork key s w work

  pub claims_within : (m : Marks Firing Answer) (a : Place) → Within m → Within (claimed (rules key) m a)
  claims_within m a h = claimed_within (rules key) (most key.graphs.graphs) IsShort R (items_few key.graphs.graphs (rank key.graphs.graphs) law) such.calls m a h

  other_entry : (w u : ℕ) (e : Entry) → worker_of e ≡ w → w ≢ u → entries_of worker_of u (e ∷ []) ≡ []
  other_entry w u e is ne = ap (λ b. if b then e ∷ [] else []) (ne_eqb (worker_of e) u (λ f. ne (sym is ∙ f)))

  module _ (taken : List Step) (legal : AreLegal key taken) (good : IsGood (state_after key taken)) where
    abbrev s : BoardState
    s = state_after key taken

    module _ (w i : ℕ) (p : Place) (more : AreLegal key (taken ++ steps.Claim w (i ∷ p) ∷ [])) where
      abbrev a : Place
      a = i ∷ p

      abbrev then_claimed : BoardState
      then_claimed = after (rules key) s (steps.Claim w a)

      may_claim : MayClaim (rules key) key.workers s w a
      may_claim = legal_last key taken (steps.Claim w a) more

      claim_works : (u : ℕ) (c : Place) → then_claimed.running u ≡ Some c → (work : Work) × RunsWork key then_claimed u work
      claim_works u c runs =
          ⊎_elim
          (λ (t : (w ≡ u) × (then_claimed.running u ≡ Some a)).
          let b = begun (rules key) (rank key.graphs.graphs) law s.marks i p may_claim.enabled in
          (b.work, record { place = a; runs = t.1; task = b.task }))
          (λ (t : (w ≢ u) × (then_claimed.running u ≡ s.running u)).
          let old = good.works u c (sym t.1 ∙ runs) in
          let entered = laws.claims taken w a legal more in
          let later = laws.lasts taken (taken ++ steps.Claim w a ∷ []) (Claim w entered.0 entered.1 ∷ []) u old.0 legal more entered.2 (other_entry w u (Claim w entered.0 entered.1) refl t.0) old.1 in
          (old.0, subst (λ (z : BoardState). RunsWork key z u old.0) (next_state key taken (steps.Claim w a)) later))
          (assign_at s.running w (Some a) u)

      claim_good : IsGood then_claimed
      claim_good = record {
        within = claims_within s.marks a good.within;
        busy = λ u c runs.
            ⊎_elim
            (λ (t : (w ≡ u) × (then_claimed.running u ≡ Some a)). let same : a ≡ c = some_same a c (sym t.1 ∙ runs) in subst (λ (z : Place). then_claimed.marks z ≡ Busy) same may_claim.enabled.1)
            (λ (t : (w ≢ u) × (then_claimed.running u ≡ s.running u)). claimed_stays (rules key) s.marks a c (good.busy u c (sym t.1 ∙ runs)))
            (assign_at s.running w (Some a) u);
        apart = λ u v c one other.
            ⊎_elim
            (λ (t : (w ≡ u) × (then_claimed.running u ≡ Some a)).
            ⊎_elim
            (λ (x : (w ≡ v) × (then_claimed.running v ≡ Some a)). sym t.0 ∙ x.0)
            (λ (x : (w ≢ v) × (then_claimed.running v ≡ s.running v)). absurd (not_run v (sym x.1 ∙ (other ∙ sym one ∙ t.1))))
            (assign_at s.running w (Some a) v))
            (λ (t : (w ≢ u) × (then_claimed.running u ≡ s.running u)).
            ⊎_elim
            (λ (x : (w ≡ v) × (then_claimed.running v ≡ Some a)). absurd (not_run u (sym t.1 ∙ (one ∙ sym other ∙ x.1))))
            (λ (x : (w ≢ v) × (then_claimed.running v ≡ s.running v)). good.apart u v c (sym t.1 ∙ one) (sym x.1 ∙ other))
            (assign_at s.running w (Some a) v))
            (assign_at s.running w (Some a) u);
        works = claim_works;
      }
        where
          -- nobody runs it before
          not_run : (u : ℕ) → s.running u ≡ Some a → ⊥
          not_run u runs = let free : s.marks a ≡ Free = may_claim.enabled.0 in let taken_so : s.marks a ≡ Busy = good.busy u a runs in cc

    module _ (w : ℕ) (answer : Answer) (more : AreLegal key (taken ++ steps.Finish w answer ∷ [])) where
      may_finish : MayFinish (rules key) (Answers key.graphs.graphs) key.workers s w answer
      may_finish = legal_last key taken (steps.Finish w answer) more

      abbrev c : Place
      c = may_finish.place

      abbrev then_finished : BoardState
      then_finished = record { marks = finished (rules key) s.marks c answer; running = assign s.running w None }

      finished_so : after (rules key) s (steps.Finish w answer) ≡ then_finished
      finished_so = ap (finish_of (rules key) s w answer) may_finish.runs

      -- what a worker runs then, another one ran before
      ran : (u : ℕ) (d : Place) → then_finished.running u ≡ Some d → (w ≢ u) × (s.running u ≡ Some d)
      ran u d runs =
          ⊎_elim
          (λ (t : (w ≡ u) × (then_finished.running u ≡ None)). let no : ◌≡◌ {A = Option Place} None (Some d) = sym t.1 ∙ runs in absurd (cc))
          (λ (t : (w ≢ u) × (then_finished.running u ≡ s.running u)). (t.0, sym t.1 ∙ runs))
          (assign_at s.running w None u)

      finish_good : IsGood then_finished
      finish_good = record {
        within = finished_within (rules key) (most key.graphs.graphs) IsShort R (outcome_short key.graphs.graphs) s.marks c answer (answers_short key.graphs.graphs may_finish.work answer may_finish.answered) good.within;
        busy = λ u d runs.
            let t = ran u d runs in
            finished_stays (rules key) s.marks c answer d (λ e. t.0 (good.apart w u d (may_finish.runs ∙ ap Some e) t.1)) (good.busy u d t.1);
        apart = λ u v d one other. good.apart u v d (ran u d one).1 (ran v d other).1;
        works = λ u d runs.
            let t = ran u d runs in
            let old = good.works u d t.1 in
            let later = laws.lasts taken (taken ++ steps.Finish w answer ∷ []) (Finish w ∷ []) u old.0 legal more (laws.finishes taken w answer) (other_entry w u (Finish w) refl t.0) old.1 in
            (old.0, subst (λ (z : BoardState). RunsWork key z u old.0) (next_state key taken (steps.Finish w answer) ∙ finished_so) later);
      }

    after_good : (e : Step) → AreLegal key (taken ++ e ∷ []) → IsGood (after (rules key) s e)
    after_good (steps.Claim w []) more =
        let on = (legal_last key taken (steps.Claim w []) more).enabled in
        let free : s.marks [] ≡ Free = on.0 in
        let busy : s.marks [] ≡ Busy = on.1 in
        absurd (cc)
    after_good (steps.Claim w (i ∷ p)) more = claim_good w i p more
    after_good (steps.Finish w answer) more = subst IsGood (sym (finished_so w answer more)) (finish_good w answer more)

    pub step_good : (e : Step) → AreLegal key (taken ++ e ∷ []) → IsGood (state_after key (taken ++ e ∷ []))
    step_good e more = subst IsGood (sym (next_state key taken e)) (after_good e more)

  start_good : IsGood (state_after key [])
  start_good = record {
    within = start_within (rules key) (most key.graphs.graphs) IsShort R (top_job key) such.top;
    busy = λ w a runs. absurd (cc);
    apart = λ w u a runs same. absurd (cc);
    works = λ w a runs. absurd (cc);
  }

  good_from : (before more : List Step) → AreLegal key (before ++ more) → IsGood (state_after key before) → IsGood (state_after key (before ++ more))
  good_from before [] legal good = subst (λ (l : List Step). IsGood (state_after key l)) (sym (append-nil before)) good
  good_from before (e ∷ more) legal good =
      let moved : (before ++ e ∷ []) ++ more ≡ before ++ e ∷ more = append_assoc before (e ∷ []) more in
      let legal_so : AreLegal key ((before ++ e ∷ []) ++ more) = subst (AreLegal key) (sym moved) legal in
      let next = legal_front key (before ++ e ∷ []) more legal_so in
      subst (λ (l : List Step). IsGood (state_after key l)) moved (good_from (before ++ e ∷ []) more legal_so (step_good before (legal_front key before (e ∷ []) next) good e next))

  pub good_after : (taken : List Step) → AreLegal key taken → IsGood (state_after key taken)
  good_after taken legal = good_from [] taken legal start_good
