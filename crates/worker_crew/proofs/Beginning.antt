-- What a crew knows at its start and at its end.
use Rattle.std.proofs.Common.{◌≡◌, ⊎_elim, inl, inr, ℕ, ◌+◌, ◌<◌, ◌≤◌, false, None, List, [], ◌++◌, length, refl, sym, ap, ◌∙◌, subst, arith, append-nil}
use Rattle.std.specs.Prelude.{is_some}
use Rattle.std.proofs.lemmas.Bool.{cases_lt}
use Rattle.std.proofs.lemmas.List.{length-replicate}
use Rattle.kernel_gate.specs.Signed.{Counts}
use Rattle.board_lock.specs.Meant.{entries_of}
use Rattle.board_lock.specs.Passes.{Finds, LendsNothing, first_known}
use Rattle.board_lock.proofs.Entries.{entries-append}
use Rattle.board_rules.specs.Keys.{Key}
use Rattle.board_rules.specs.Legal.{AreLegal, HasEnded, journal_of, state_after}
use Rattle.board_rules.specs.declared.entry.Entry.{Entry}
use Rattle.firing_board.specs.Ends.{HasFinished, IsOver}
use Rattle.firing_board.specs.Locking.{board_meant, places_of, worker_of}
use Rattle.firing_board.specs.Runs.{AreAllIdle, IsSound}
use Rattle.firing_board.specs.View.{BoardView}
use Rattle.worker_crew.specs.Laws.{BoardsHaveLaws}
use Rattle.worker_crew.specs.Passes.{AllMayWork, AreIdle, BoardPass, HasSeenEnd, HasSeenOver, IsIdleAt, entries_at, last_claims}
use Rattle.worker_crew.specs.Worked.{HasWorked}
use Rattle.worker_crew.proofs.Advancing.{worked_idle_at}
use Rattle.worker_crew.proofs.Leaving.{found_key, none_is}
use Rattle.worker_crew.proofs.Lists.{all_default, past_end}

-- ---- the start

module _ (laws : BoardsHaveLaws) (b : BoardView) (sound : IsSound b) (idle : AreAllIdle b) where
  -- by the entries, no worker runs anything
  no_claims : (w : ℕ) → w < b.key.workers → last_claims false (entries_of worker_of w b.journal) ≡ false
  no_claims w lt =
      ap (λ (l : List Entry). last_claims false (entries_of worker_of w l)) idle.at.entered
      ∙ ((laws b.key sound.is_key).told idle.taken w idle.at.legal ∙ ap is_some (idle.run_none w lt))

  runs_none : (w : ℕ) → w < b.key.workers → (state_after b.key sound.taken).running w ≡ None
  runs_none w lt = none_is ((state_after b.key sound.taken).running w)
      (sym ((laws b.key sound.is_key).told sound.taken w sound.at.legal) ∙ (ap (λ (l : List Entry). last_claims false (entries_of worker_of w l)) (sym sound.at.entered) ∙ no_claims w lt))

  pub lends_nothing : LendsNothing board_meant b
  lends_nothing n = ap places_of (⊎_elim
      (λ (low : n < b.key.workers). sound.unlent n (runs_none n low))
      (λ (past : b.key.workers ≤ n). past_end b.lent n None (let l = sound.one_each in omega arith))
      (cases_lt n b.key.workers))

  module _ (workers : ℕ) (is : workers ≡ b.key.workers) (kernels : List Counts) (kernels_are : b.key.signatures ≡ kernels) where
    abbrev first : BoardPass
    first = first_known board_meant b workers

    pub some_worker : 0 < workers
    some_worker = let s = sound.is_key.some in omega arith

    pub first_count : length first.own ≡ workers
    first_count = length-replicate workers []

    pub first_may : AllMayWork kernels first
    first_may = let some = some_worker in let long = first_count in record { key = b.key; key_is = refl; kernels_are = kernels_are; some = omega arith; are_workers = omega arith }

    pub first_idle : AreIdle first
    first_idle k lt =
        let long = first_count in
        let number : 0 + k ≡ k = omega arith in
        ap (λ (l : List Entry). last_claims false (entries_of worker_of (0 + k) b.journal ++ l)) (all_default workers k [])
        ∙ (ap (last_claims false) (append-nil (entries_of worker_of (0 + k) b.journal))
        ∙ (ap (λ (n : ℕ). last_claims false (entries_of worker_of n b.journal)) number ∙ no_claims k (omega arith)))

-- ---- the end

module _ (laws : BoardsHaveLaws) (p q : BoardPass) (y : BoardView) (sound : IsSound y) (worked : HasWorked p q) (found : Finds board_meant q y) (starts : p.number ≡ 0) (all : length p.own ≡ y.key.workers) (idle : AreIdle p) where
  -- the entries of each worker
  own_entries : (w : ℕ) → w < y.key.workers → entries_of worker_of w y.journal ≡ entries_at q w
  own_entries w lt =
      let zero_now : q.number ≡ 0 = worked.later.number ∙ starts in
      let number : q.number + w ≡ w = omega arith in
      let inside : w < length q.own = let c = worked.later.count in omega arith in
      ap (entries_of worker_of w) found.opening
      ∙ (entries-append worker_of w q.opening found.tail
      ∙ (ap (λ (n : ℕ). entries_of worker_of n q.opening ++ entries_of worker_of n found.tail) (sym number)
      ∙ ap (λ (l : List Entry). entries_of worker_of (q.number + w) q.opening ++ l) (sym (found.own w inside))))

  pub all_idle : AreAllIdle y
  all_idle = record { taken = sound.taken; at = sound.at; run_none = go }
    where
      go : (w : ℕ) → w < y.key.workers → (state_after y.key sound.taken).running w ≡ None
      go w lt =
          let inside : w < length p.own = omega arith in
          let rests : IsIdleAt q w = worked_idle_at p q w inside worked (idle w inside) in
          none_is ((state_after y.key sound.taken).running w)
          (sym ((laws y.key sound.is_key).told sound.taken w sound.at.legal)
          ∙ (ap (λ (l : List Entry). last_claims false (entries_of worker_of w l)) (sym sound.at.entered)
          ∙ (ap (last_claims false) (own_entries w lt) ∙ rests)))

  pub is_over : HasSeenOver q → IsOver y
  is_over (inl over) = inr (found.over over, all_idle)
  is_over (inr end) = inl (finished end)
    where
      finished : HasSeenEnd q → HasFinished y
      finished end =
          let same : y.key ≡ end.key = found_key q y found end.key end.key_is in
          let legal : AreLegal y.key end.taken = subst (λ (k : Key). AreLegal k end.taken) (sym same) end.legal in
          let ended : HasEnded y.key end.taken = subst (λ (k : Key). HasEnded k end.taken) (sym same) end.ended in
          let seen : q.seen ≡ journal_of y.key end.taken = end.seen_is ∙ ap (λ (k : Key). journal_of k end.taken) (sym same) in
          let begins : y.journal ≡ journal_of y.key end.taken ++ found.seen.0 = found.seen.1 ∙ ap (λ (l : List Entry). l ++ found.seen.0) seen in
          let none : found.seen.0 ≡ [] = (laws y.key sound.is_key).ends end.taken sound.taken found.seen.0 legal sound.at.legal (sym sound.at.entered ∙ begins) ended in
          record {
            taken = end.taken;
            at = record { legal = legal; entered = begins ∙ (ap (λ (l : List Entry). journal_of y.key end.taken ++ l) none ∙ append-nil (journal_of y.key end.taken)) };
            ended = ended;
          }

-- ---- the whole

module _ (laws : BoardsHaveLaws) (b : BoardView) (sound_b : IsSound b) (idle_b : AreAllIdle b) (workers : ℕ) (is : workers ≡ b.key.workers) (p q : BoardPass) (known : p ≡ first_known board_meant b workers) (y : BoardView) (sound : IsSound y) (worked : HasWorked p q) (found : Finds board_meant q y) where
  same_key : y.key ≡ b.key
  same_key = found_key q y found b.key (worked.later.key ∙ ap (λ (k : BoardPass). k.key) known)

  starts : p.number ≡ 0
  starts = ap (λ (k : BoardPass). k.number) known

  all_numbers : length p.own ≡ y.key.workers
  all_numbers = ap (λ (k : BoardPass). length k.own) known ∙ (length-replicate workers [] ∙ (is ∙ ap (λ (k : Key). k.workers) (sym same_key)))

  idle_first : AreIdle p
  idle_first = subst AreIdle (sym known) (first_idle laws b sound_b idle_b workers is b.key.signatures refl)

  pub ends_idle : AreAllIdle y
  ends_idle = all_idle laws p q y sound worked found starts all_numbers idle_first

  pub ends_over : HasSeenOver q → IsOver y
  ends_over over = is_over laws p q y sound worked found starts all_numbers idle_first over
