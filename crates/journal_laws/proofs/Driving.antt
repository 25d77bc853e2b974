-- A legal journal is brought to its end: each step lowers what its marks weigh.
use Rattle.std.proofs.Common.{◌≡◌, ◌≢◌, ◌⊎◌, ℕ, zero, suc, ◌<◌, ◌≤◌, Option, Some, None, List, [], ◌∷◌, ◌++◌, length, refl, sym, ◌∙◌, ap, subst, inl, inr, ⊎_elim, append_assoc, arith}
use Rattle.std.proofs.lemmas.List.{append-nil}
use Rattle.pisdf_meaning.specs.declared.firing.Firing.{Firing}
use Rattle.nested_jobs.specs.Rules.{Place, Work}
use Rattle.nested_jobs.specs.Marks.{Busy, Free, Marks, Open}
use Rattle.nested_jobs.specs.Steps.{claimed, finished}
use Rattle.nested_jobs.specs.Journals as steps
use Rattle.nested_jobs.specs.Journals.{MayFinish, finish_of, task_of}
use Rattle.nested_jobs.specs.Meanings.{Lawful}
use Rattle.job_rules.specs.Doing.{Answers, value_of}
use Rattle.job_rules.specs.Meant.{rank}
use Rattle.job_rules.specs.Words as words
use Rattle.job_rules.specs.Words.{Answer, Compiles, Copies, Fires, Gives, fired, given_outs}
use Rattle.board_rules.specs.Entries.{BoardState, Step}
use Rattle.board_rules.specs.Keys.{IsKey, Key, rules}
use Rattle.board_rules.specs.Laws.{OpenJobsAreShallow, WorkersAreAnswered}
use Rattle.board_rules.specs.Legal.{AreLegal, HasEnded, state_after}
use Rattle.board_rules.specs.Picks.{IsPick}
use Rattle.firing_board.specs.Runs.{RunsWork}
use Rattle.worker_crew.specs.Laws.{BoardLaws, CompilationsEnd, WorkFits}
use Rattle.journal_laws.specs.Steps.{BringsToEnd}
use Rattle.journal_laws.proofs.Counting.{most}
use Rattle.journal_laws.proofs.Cutting.{passes}
use Rattle.journal_laws.proofs.Good.{IsGood, all_such, claims_within, good_after}
use Rattle.journal_laws.proofs.Longer.{legal_last, legal_more, next_state}
use Rattle.journal_laws.proofs.Lighter.{Falls, begun, claimed_drops, claimed_falls, finished_drops, finished_falls}
use Rattle.journal_laws.proofs.Weighing.{AreBelow, box_drops, sum_box, weight}
use Rattle.journal_laws.proofs.Writes.{task_open}

-- what is cited here
pub record Laws (key : Key) : Type 0 where
  pub is : IsKey key
  pub lawful : Lawful (rules key) (rank key.graphs.graphs)
  pub board : BoardLaws key
  pub shallow : OpenJobsAreShallow
  pub answered : WorkersAreAnswered
  pub compile : CompilationsEnd
  pub fits : WorkFits

module _ (key : Key) (laws : Laws key) where
  abbrev bound : ℕ
  bound = most key.graphs.graphs

  -- what the marks of places weigh, together
  heaviness : Marks Firing Answer → ℕ
  heaviness m = sum_box bound 8 (λ a. weight (m a))

  less_heavy : (m n : Marks Firing Answer) (a : Place) → length a ≤ 8 → AreBelow bound a → Falls (rules key) m n → weight (n a) < weight (m a) → heaviness n < heaviness m
  unfolding heaviness
  less_heavy m n a deep below falls less = box_drops bound 8 (λ c. weight (m c)) (λ c. weight (n c)) a deep below falls less

  abbrev left_to_do : List Step → ℕ
  left_to_do taken = heaviness (state_after key taken).marks

  module _ (taken : List Step) (legal : AreLegal key taken) where
    abbrev s : BoardState
    s = state_after key taken

    good : IsGood key laws.lawful laws.board (λ job. Unit {0}) (all_such key) s
    good = good_after key laws.lawful laws.board (λ job. Unit {0}) (all_such key) taken legal

    -- ---- a step makes what is left to do less

    claim_less : (w i : ℕ) (p : Place) → AreLegal key (taken ++ steps.Claim w (i ∷ p) ∷ []) → left_to_do (taken ++ steps.Claim w (i ∷ p) ∷ []) < left_to_do taken
    claim_less w i p more =
        let e : Step = steps.Claim w (i ∷ p) in
        let on = (legal_last key taken e more).enabled in
        let next = next_state key taken e in
        let n : Marks Firing Answer = claimed (rules key) s.marks (i ∷ p) in
        let b = begun (rules key) (rank key.graphs.graphs) laws.lawful s.marks i p on in
        let open_so : (state_after key (taken ++ e ∷ [])).marks p ≡ Open b.job = ap (λ (z : BoardState). z.marks p) next ∙ b.is_open in
        let depth : length p < 8 = laws.shallow key (taken ++ e ∷ []) p b.job laws.is more open_so in
        let below = (claims_within key laws.lawful laws.board (λ job. Unit {0}) (all_such key) s.marks (i ∷ p) good.within).items (i ∷ p) (λ f. let busy : n (i ∷ p) ≡ Busy = on.1 in cc) in
        let drop : heaviness n < heaviness s.marks = less_heavy s.marks n (i ∷ p) (omega arith) below (claimed_falls (rules key) s.marks (i ∷ p)) (claimed_drops (rules key) s.marks (i ∷ p) on) in
        subst (λ (z : BoardState). heaviness z.marks < heaviness s.marks) (sym next) drop

    finish_less : (w : ℕ) (answer : Answer) → AreLegal key (taken ++ steps.Finish w answer ∷ []) → left_to_do (taken ++ steps.Finish w answer ∷ []) < left_to_do taken
    finish_less w answer more =
        let e : Step = steps.Finish w answer in
        let may : MayFinish (rules key) (Answers key.graphs.graphs) key.workers s w answer = legal_last key taken e more in
        let busy : s.marks may.place ≡ Busy = good.busy w may.place may.runs in
        let next : state_after key (taken ++ e ∷ []) ≡ finish_of (rules key) s w answer (Some may.place) = next_state key taken e ∙ ap (finish_of (rules key) s w answer) may.runs in
        let below = good.within.items may.place (λ f. cc) in
        let drop : heaviness (finished (rules key) s.marks may.place answer) < heaviness s.marks =
        less_heavy s.marks (finished (rules key) s.marks may.place answer) may.place (deep may.place may.work may.is_work) below
        (finished_falls (rules key) s.marks may.place answer) (finished_drops (rules key) s.marks may.place answer (λ f. none may.place may.work may.is_work f) busy) in
        subst (λ (z : BoardState). heaviness z.marks < heaviness s.marks) (sym next) drop
      where
        deep : (a : Place) (work : words.Work) → task_of (rules key) s.marks a ≡ Some (Work work) → length a ≤ 8
        deep [] work is = omega arith
        deep (i ∷ p) work is =
            let o = task_open (rules key) s.marks i p (Work work) is in
            let depth : length p < 8 = laws.shallow key taken p o.0 laws.is legal o.1 in
            omega arith

        none : (a : Place) (work : words.Work) → task_of (rules key) s.marks a ≡ Some (Work work) → a ≢ []
        none [] work is f = cc
        none (i ∷ p) work is f = cc

    step_less : (e : Step) → AreLegal key (taken ++ e ∷ []) → left_to_do (taken ++ e ∷ []) < left_to_do taken
    step_less (steps.Claim w []) more =
        let on = (legal_last key taken (steps.Claim w []) more).enabled in
        let free : s.marks [] ≡ Free = on.0 in
        let busy : s.marks [] ≡ Busy = on.1 in
        absurd (cc)
    step_less (steps.Claim w (i ∷ p)) more = claim_less w i p more
    step_less (steps.Finish w answer) more = finish_less w answer more

    -- ---- where it hasn't ended, there is a step

    abbrev HasNext : Type 0
    HasNext = (e : Step) × AreLegal key (taken ++ e ∷ [])

    work_answer : (w : ℕ) (work : words.Work) → RunsWork key s w work → (answer : Answer) × Answers key.graphs.graphs work answer
    work_answer w (Fires spot asked) runs = (fired spot (value_of asked), refl)
    work_answer w (Copies node read lens) runs =
        let fit = laws.fits key taken w (Copies node read lens) laws.is legal runs in
        let p = passes read lens node fit.0 in
        (Gives (given_outs p.outs), record { outs = p.outs; answer_is = refl; fitting = p.fitting; passed = p.passed })
    work_answer w (Compiles firing left) runs = laws.compile key taken w firing left laws.is legal runs

    finish_on : (w : ℕ) (a : Place) → w < key.workers → s.running w ≡ Some a → HasNext
    finish_on w a lt runs =
        let r = good.works w a runs in
        let answer = work_answer w r.0 r.1 in
        (steps.Finish w answer.0, legal_more key taken (steps.Finish w answer.0) legal record { is_worker = lt; place = r.1.place; runs = r.1.runs; work = r.0; is_work = r.1.task; answered = answer.1 } tt)

    claim_on : (i : ℕ) (p : Place) → s.running 0 ≡ None → IsPick key s.marks 0 i p → HasNext
    claim_on i p idle pick = (steps.Claim 0 (i ∷ p), legal_more key taken (steps.Claim 0 (i ∷ p)) legal record { is_worker = laws.is.some; runs_none = idle; enabled = pick.enabled } pick)

    next_or_end : (r : Option Place) → s.running 0 ≡ r → HasNext ⊎ HasEnded key taken
    next_or_end (Some a) runs = inl (finish_on 0 a laws.is.some runs)
    next_or_end None idle =
        ⊎_elim
        (λ pick. inl (claim_on pick.0 pick.1 idle pick.2))
        (λ other. ⊎_elim (λ wait. inl (finish_on wait.worker wait.place wait.runs.0 wait.runs.1)) (λ ended. inr ended) other)
        (laws.answered key taken 0 laws.is legal)

  drive : (n : ℕ) (taken : List Step) → AreLegal key taken → left_to_do taken < n → (rest : List Step) × BringsToEnd key taken rest
  drive zero taken legal less = absurd (omega arith)
  drive (suc n) taken legal less =
      ⊎_elim
      (λ (t : (e : Step) × AreLegal key (taken ++ e ∷ [])).
      let lower = step_less taken legal t.0 t.1 in
      let rest = drive n (taken ++ t.0 ∷ []) t.1 (omega arith) in
      let moved : (taken ++ t.0 ∷ []) ++ rest.0 ≡ taken ++ t.0 ∷ rest.0 = append_assoc taken (t.0 ∷ []) rest.0 in
      (t.0 ∷ rest.0, record { legal = subst (AreLegal key) moved rest.1.legal; ended = subst (HasEnded key) moved rest.1.ended }))
      (λ (ended : HasEnded key taken). ([], record { legal = subst (AreLegal key) (sym (append-nil taken)) legal; ended = subst (HasEnded key) (sym (append-nil taken)) ended }))
      (next_or_end taken legal ((state_after key taken).running 0) refl)

  pub brought : (taken : List Step) → AreLegal key taken → (rest : List Step) × BringsToEnd key taken rest
  brought taken legal = drive (suc (left_to_do taken)) taken legal (omega arith)
