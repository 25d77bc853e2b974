-- After a legal journal a worker has at most one step.
use Rattle.std.proofs.Common.{◌≡◌, ℕ, Some, None, List, [], ◌∷◌, ◌++◌, sym, ap, ◌∙◌, subst}
use Rattle.nested_jobs.specs.Rules.{Place, Work}
use Rattle.nested_jobs.specs.Marks.{Busy, Free}
use Rattle.nested_jobs.specs.Journals as steps
use Rattle.nested_jobs.specs.Journals.{MayClaim, MayFinish, task_of}
use Rattle.job_rules.specs.Doing.{Answers}
use Rattle.job_rules.specs.Words as words
use Rattle.job_rules.specs.Words.{Answer}
use Rattle.board_rules.specs.Entries.{BoardState, Step}
use Rattle.board_rules.specs.Keys.{IsKey, Key, rules}
use Rattle.board_rules.specs.Laws.{PicksAreOne, WorkHasOneAnswer}
use Rattle.board_rules.specs.Legal.{AreLegal, state_after}
use Rattle.board_rules.specs.Picks.{IsPick}
use Rattle.journal_laws.specs.Steps.{worker_of}
use Rattle.journal_laws.proofs.Longer.{legal_front, legal_last, pick_last}

module _ (key : Key) (is : IsKey key) (picks : PicksAreOne) (answers : WorkHasOneAnswer) (taken : List Step) where
  abbrev s : BoardState
  s = state_after key taken

  nothing_claimed : (w : ℕ) → AreLegal key (taken ++ steps.Claim w [] ∷ []) → ⊥
  nothing_claimed w more =
      let on = (legal_last key taken (steps.Claim w []) more).enabled in
      let free : s.marks [] ≡ Free = on.0 in
      let busy : s.marks [] ≡ Busy = on.1 in
      cc

  not_both : (w v : ℕ) (a : Place) (answer : Answer) → w ≡ v → AreLegal key (taken ++ steps.Claim w a ∷ []) → AreLegal key (taken ++ steps.Finish v answer ∷ []) → ⊥
  not_both w v a answer e one other =
      let may : MayClaim (rules key) key.workers s w a = legal_last key taken (steps.Claim w a) one in
      let ends : MayFinish (rules key) (Answers key.graphs.graphs) key.workers s v answer = legal_last key taken (steps.Finish v answer) other in
      let none : s.running w ≡ None = may.runs_none in
      let some : s.running w ≡ Some ends.place = ap s.running e ∙ ends.runs in
      cc

  claims_same : (w i : ℕ) (p : Place) (v j : ℕ) (q : Place) → w ≡ v → AreLegal key (taken ++ steps.Claim w (i ∷ p) ∷ []) → AreLegal key (taken ++ steps.Claim v (j ∷ q) ∷ []) → ◌≡◌ {A = Step} (steps.Claim w (i ∷ p)) (steps.Claim v (j ∷ q))
  claims_same w i p v j q e one other =
      let a = pick_last key taken (steps.Claim w (i ∷ p)) one in
      let b = pick_last key taken (steps.Claim v (j ∷ q)) other in
      let legal = legal_front key taken (steps.Claim w (i ∷ p) ∷ []) one in
      let place : i ∷ p ≡ j ∷ q = picks key taken v i j p q is legal (subst (λ (z : ℕ). IsPick key s.marks z i p) e a) b in
      λ x. steps.Claim (e x) (place x)

  finishes_same : (w v : ℕ) (one other : Answer) → w ≡ v → AreLegal key (taken ++ steps.Finish w one ∷ []) → AreLegal key (taken ++ steps.Finish v other ∷ []) → ◌≡◌ {A = Step} (steps.Finish w one) (steps.Finish v other)
  finishes_same w v one other e a b =
      let m : MayFinish (rules key) (Answers key.graphs.graphs) key.workers s w one = legal_last key taken (steps.Finish w one) a in
      let n : MayFinish (rules key) (Answers key.graphs.graphs) key.workers s v other = legal_last key taken (steps.Finish v other) b in
      let place : m.place ≡ n.place = (let x : s.running w ≡ Some m.place = m.runs in let y : s.running w ≡ Some n.place = ap s.running e ∙ n.runs in cc) in
      let work : m.work ≡ n.work = (let x = m.is_work in let y : task_of (rules key) s.marks m.place ≡ Some (Work n.work) = ap (task_of (rules key) s.marks) place ∙ n.is_work in cc) in
      let same : one ≡ other = answers key.graphs n.work one other (subst (λ (z : words.Work). Answers key.graphs.graphs z one) work m.answered) n.answered in
      λ x. steps.Finish (e x) (same x)

  pub one_next : (one other : Step) → AreLegal key (taken ++ one ∷ []) → AreLegal key (taken ++ other ∷ []) → worker_of one ≡ worker_of other → one ≡ other
  one_next (steps.Claim w []) other a b e = absurd (nothing_claimed w a)
  one_next (steps.Claim w (i ∷ p)) (steps.Claim v []) a b e = absurd (nothing_claimed v b)
  one_next (steps.Claim w (i ∷ p)) (steps.Claim v (j ∷ q)) a b e = claims_same w i p v j q e a b
  one_next (steps.Claim w (i ∷ p)) (steps.Finish v answer) a b e = absurd (not_both w v (i ∷ p) answer e a b)
  one_next (steps.Finish w answer) (steps.Claim v c) a b e = absurd (not_both v w c answer (sym e) b a)
  one_next (steps.Finish w one) (steps.Finish v other) a b e = finishes_same w v one other e a b
