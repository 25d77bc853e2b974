-- What workers hold they still hold after the steps of another one.
use Rattle.std.proofs.Common.{◌≡◌, ◌≢◌, ℕ, zero, suc, ◌<◌, false, Option, Some, None, List, [], ◌++◌, length, get_or, set, replicate, refl, sym, ap, ◌∙◌, subst, append_assoc, append-nil, get_or-set_same, get_or-set_other}
use Rattle.std.specs.Prelude.{is_some}
use native.Mathlib.Decide.{ℕ_discrete}
use Rattle.kernel_gate.specs.Value.{Places}
use Rattle.job_rules.specs.Words.{Work}
use Rattle.board_lock.specs.Meant.{entries_of}
use Rattle.board_lock.proofs.Entries.{entries-append}
use Rattle.board_rules.specs.Entries.{Step}
use Rattle.board_rules.specs.Keys.{Key}
use Rattle.board_rules.specs.Legal.{AreLegal, journal_of, state_after}
use Rattle.board_rules.specs.declared.entry.Entry.{Entry}
use Rattle.firing_board.specs.Locking.{worker_of}
use Rattle.firing_board.specs.Runs.{AreAllIdle, IsIdle, IsSound, Runs, RunsWork}
use Rattle.firing_board.specs.View.{BoardView, IsAt}
use Rattle.firing_board.specs.declared.claim.Ticket.{Ticket}
use Rattle.worker_crew.specs.Asked.{IsToCompile, IsToCopy, IsToFire}
use Rattle.worker_crew.specs.Laws.{BoardsHaveLaws}
use Rattle.worker_crew.specs.Passes.{last_claims}
use Rattle.board_calls.specs.Holding.{AreHeld, HasClaimed, Holds, StepsOf}
use Rattle.board_calls.specs.declared.held.Held.{Held}
use Rattle.board_calls.specs.declared.held.Held.TheVariants.{Nothing, Fire, Configure, Copy, Compile}

none_is : {A : Type 0} (o : Option A) → is_some o ≡ false → o ≡ None
none_is None e = refl
none_is (Some x) e = absurd (cc)

-- ---- what the journal tells of a worker

-- a worker of a board runs something exactly where its last entry is a claim
pub told : (laws : BoardsHaveLaws) (b : BoardView) (sound : IsSound b) (taken : List Step) → IsAt b taken → (w : ℕ) → last_claims false (entries_of worker_of w b.journal) ≡ is_some ((state_after b.key taken).running w)
told laws b sound taken at w = ap (λ (j : List Entry). last_claims false (entries_of worker_of w j)) at.entered ∙ (laws b.key sound.is_key).told taken w at.legal

pub idle_told : (laws : BoardsHaveLaws) (b : BoardView) (sound : IsSound b) (w : ℕ) → IsIdle b w → last_claims false (entries_of worker_of w b.journal) ≡ false
idle_told laws b sound w idle = told laws b sound idle.taken idle.at w ∙ ap is_some idle.runs_none

pub told_idle : (laws : BoardsHaveLaws) (b : BoardView) (sound : IsSound b) (w : ℕ) → w < b.key.workers → last_claims false (entries_of worker_of w b.journal) ≡ false → IsIdle b w
told_idle laws b sound w inside last = record {
  is_worker = inside;
  taken = sound.taken;
  at = sound.at;
  runs_none = none_is ((state_after b.key sound.taken).running w) (sym (told laws b sound sound.taken sound.at w) ∙ last);
}

-- ---- after another worker's steps

module _ (laws : BoardsHaveLaws) (w : ℕ) (x y : BoardView) (sound : IsSound x) (later : IsSound y) (steps : StepsOf w x y) (v : ℕ) (ne : v ≢ w) where
  same_entries : entries_of worker_of v y.journal ≡ entries_of worker_of v x.journal
  same_entries =
      ap (entries_of worker_of v) steps.journal
      ∙ (entries-append worker_of v x.journal steps.more
      ∙ (ap (λ (l : List Entry). entries_of worker_of v x.journal ++ l) (steps.others v ne) ∙ append-nil (entries_of worker_of v x.journal)))

  still_idle : IsIdle x v → IsIdle y v
  still_idle idle =
      told_idle laws y later v (subst (λ (k : Key). v < k.workers) (sym steps.key) idle.is_worker)
      (ap (last_claims false) same_entries ∙ idle_told laws x sound v idle)

  still_runs : (P : Work → Type 0) → Runs x v P → Runs y v P
  still_runs P runs =
      let legal : AreLegal y.key runs.taken = subst (λ (k : Key). AreLegal k runs.taken) (sym steps.key) runs.at.legal in
      let journal : journal_of y.key later.taken ≡ journal_of y.key runs.taken ++ steps.more =
      sym later.at.entered ∙ (steps.journal ∙ ap (λ (l : List Entry). l ++ steps.more) (runs.at.entered ∙ ap (λ (k : Key). journal_of k runs.taken) (sym steps.key))) in
      record {
        is_worker = subst (λ (k : Key). v < k.workers) (sym steps.key) runs.is_worker;
        taken = later.taken;
        at = later.at;
        work = runs.work;
        runs = (laws y.key later.is_key).lasts runs.taken later.taken steps.more v runs.work legal later.at.legal journal (steps.others v ne)
            (subst (λ (k : Key). RunsWork k (state_after k runs.taken) v runs.work) (sym steps.key) runs.runs);
        so = runs.so;
      }

  still_claimed : (ticket : Ticket) (frame : Option Places) (P : Key → Work → Type 0) → HasClaimed x v ticket frame (P x.key) → HasClaimed y v ticket frame (P y.key)
  still_claimed ticket frame P claimed = record {
    ticket_is = claimed.ticket_is;
    runs = subst (λ (k : Key). Runs y v (P k)) (sym steps.key) (still_runs (P x.key) claimed.runs);
    lent = steps.lent v ne ∙ claimed.lent;
  }

  still_holds : (held : Held) → Holds x v held → Holds y v held
  still_holds Nothing h = still_idle h
  still_holds (Fire ticket frame) h = still_claimed ticket (Some frame.places) (IsToFire frame) h
  still_holds (Configure ticket frame) h = still_claimed ticket (Some frame.places) (IsToFire frame) h
  still_holds (Copy ticket node frame) h = still_claimed ticket (Some frame.places) (IsToCopy node frame) h
  still_holds (Compile ticket task) h = still_claimed ticket None (IsToCompile task) h

-- ---- all workers

module _ (laws : BoardsHaveLaws) (w : ℕ) (x y : BoardView) (sound : IsSound x) (later : IsSound y) (steps : StepsOf w x y) where
  inside_before : (v : ℕ) → v < y.key.workers → v < x.key.workers
  inside_before v lt = subst (λ (k : Key). v < k.workers) steps.key lt

  -- the worker holds this then, and the others what they held
  pub held_then : (before after : List Held) → AreHeld x before → Holds y w (get_or after w Nothing) → ((v : ℕ) → v ≢ w → get_or after v Nothing ≡ get_or before v Nothing) → AreHeld y after
  held_then before after held own same v lt = elim (ℕ_discrete v w) [
    | yes is ↦ subst (λ (n : ℕ). Holds y n (get_or after n Nothing)) (sym is) own
    | no ne ↦ subst (Holds y v) (sym (same v ne)) (still_holds laws w x y sound later steps v ne (get_or before v Nothing) (held v (inside_before v lt)))
  ]

  -- so it is where its place in the list is written
  pub held_set : (held : List Held) (next : Held) → w < length held → AreHeld x held → Holds y w next → AreHeld y (set held w next)
  held_set held next inside are own =
      held_then held (set held w next) are (subst (Holds y w) (sym (get_or-set_same held w next Nothing inside)) own) (λ v ne. get_or-set_other held w v next Nothing ne)

  -- all are idle then that were, and so is the worker
  pub idle_then : AreAllIdle x → IsIdle y w → AreAllIdle y
  idle_then idle own = record { taken = later.taken; at = later.at; run_none = go }
    where
      none_of : (v : ℕ) → IsIdle y v → (state_after y.key later.taken).running v ≡ None
      none_of v h = none_is ((state_after y.key later.taken).running v) (sym (told laws y later later.taken later.at v) ∙ idle_told laws y later v h)

      was_idle : (v : ℕ) → v < y.key.workers → IsIdle x v
      was_idle v lt = record { is_worker = inside_before v lt; taken = idle.taken; at = idle.at; runs_none = idle.run_none v (inside_before v lt) }

      go : (v : ℕ) → v < y.key.workers → (state_after y.key later.taken).running v ≡ None
      go v lt = elim (ℕ_discrete v w) [
        | yes is ↦ subst (λ (n : ℕ). (state_after y.key later.taken).running n ≡ None) (sym is) (none_of w own)
        | no ne ↦ none_of v (still_idle laws w x y sound later steps v ne (was_idle v lt))
      ]

-- where nobody holds anything, all are idle
pub none_held : (laws : BoardsHaveLaws) (b : BoardView) → IsSound b → AreHeld b [] → AreAllIdle b
none_held laws b sound held = record {
  taken = sound.taken;
  at = sound.at;
  run_none = λ v lt. none_is ((state_after b.key sound.taken).running v) (sym (told laws b sound sound.taken sound.at v) ∙ idle_told laws b sound v (held v lt));
}

nothing_at : (n v : ℕ) → get_or (replicate n Nothing) v Nothing ≡ Nothing
nothing_at zero v = refl
nothing_at (suc n) zero = refl
nothing_at (suc n) (suc v) = nothing_at n v

-- and the other way round
pub idle_held : (b : BoardView) (n : ℕ) → AreAllIdle b → AreHeld b (replicate n Nothing)
idle_held b n idle v lt =
    let nothing : IsIdle b v = record { is_worker = lt; taken = idle.taken; at = idle.at; runs_none = idle.run_none v lt } in
    subst (Holds b v) (sym (nothing_at n v)) nothing

-- no steps
pub no_steps : (w : ℕ) (b : BoardView) → StepsOf w b b
no_steps w b = record { key = refl; more = []; journal = sym (append-nil b.journal); others = λ v ne. refl; lent = λ v ne. refl }

-- steps after steps of the same worker
pub steps_on : (w : ℕ) (x y z : BoardView) → StepsOf w x y → StepsOf w y z → StepsOf w x z
steps_on w x y z a b = record {
  key = b.key ∙ a.key;
  more = a.more ++ b.more;
  journal = b.journal ∙ (ap (λ (l : List Entry). l ++ b.more) a.journal ∙ append_assoc x.journal a.more b.more);
  others = λ v ne. entries-append worker_of v a.more b.more ∙ (ap (λ (l : List Entry). l ++ entries_of worker_of v b.more) (a.others v ne) ∙ b.others v ne);
  lent = λ v ne. b.lent v ne ∙ a.lent v ne;
}
