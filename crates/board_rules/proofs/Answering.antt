-- What a worker is answered, how many jobs are open, and that the number of workers doesn't matter.
use Rattle.std.proofs.Common.{◌≡◌, ◌⊎◌, ⊎_elim, inl, inr, ℕ, zero, suc, ◌*◌, ◌<◌, ◌≤◌, Option, Some, None, List, ◌∷◌, length, refl, sym, ap, ◌∙◌, subst, arith}
use Rattle.pisdf_meaning.specs.Endings.{End}
use Rattle.pisdf_meaning.specs.Laws.{HasOneMeaning}
use Rattle.pisdf_meaning.specs.Meaning.{Means}
use Rattle.pisdf_meaning.specs.declared.firing.Firing.{Firing}
use Rattle.nested_jobs.specs.Rules.{Place}
use Rattle.nested_jobs.specs.Marks.{Done, Open}
use Rattle.nested_jobs.specs.Pick.{AreAllOpen, Distinct, Few}
use Rattle.nested_jobs.specs.Steps.{IsEnabled}
use Rattle.nested_jobs.proofs.Depths.{few_in_all}
use Rattle.nested_jobs.proofs.Nesting.{deep}
use Rattle.job_rules.specs.Meant.{rank}
use Rattle.job_rules.specs.Words.{answer_of}
use Rattle.board_rules.specs.Keys.{IsKey, Key, rules, top_job}
use Rattle.board_rules.specs.Entries.{BoardState, Step}
use Rattle.board_rules.specs.Laws.{DifferInWorkers, EndAlike, HasPick, HasToWait, IsOneAnswer}
use Rattle.board_rules.specs.Legal.{AreLegal, HasEnded, TellsOneThread, state_after}
use Rattle.board_rules.specs.Picks.{AreMapped}
use Rattle.board_rules.proofs.Choosing.{pick_or_none}
use Rattle.board_rules.proofs.Known.{BoardLaws, known, shallow_top}
use Rattle.board_rules.proofs.Standing.{mapped_so}

-- ---- workers

-- one of so many workers runs an item, or none does
module _ (running : ℕ → Option Place) where
  abbrev AnyRuns : ℕ → Type 0
  AnyRuns n = (w : ℕ) × (a : Place) × ((w < n) × (running w ≡ Some a))

  abbrev NoneRuns : ℕ → Type 0
  NoneRuns n = (w : ℕ) → w < n → running w ≡ None

  any_or_none : (n : ℕ) → AnyRuns n ⊎ NoneRuns n
  any_or_none zero = inr (λ w lt. absurd (omega arith))
  any_or_none (suc n) = ⊎_elim
      (λ any. inl (any.0, any.1, (let l = any.2.0 in omega arith, any.2.1)))
      (λ none. last none (running n) refl)
      (any_or_none n)
    where
      last : NoneRuns n → (r : Option Place) → running n ≡ r → AnyRuns (suc n) ⊎ NoneRuns (suc n)
      last none (Some a) e = inl (n, a, (omega arith, e))
      last none None e = inr (λ w lt. ⊎_elim (λ (same : w ≡ n). ap running same ∙ e) (λ (less : w < n). none w less) (split w n lt))
        where
          split : (w n : ℕ) → w < suc n → (w ≡ n) ⊎ (w < n)
          split w n lt = grind arith

module _ (key : Key) (is : IsKey key) (laws : BoardLaws key) (taken : List Step) (legal : AreLegal key taken) where
  abbrev state_so : BoardState
  state_so = state_after key taken

  pub mapped : AreMapped key state_so.marks
  mapped = mapped_so key is laws state_so.marks (known key is laws taken legal)

  pub has_pick : (w : ℕ) (a : Place) → IsEnabled (rules key) state_so.marks a → HasPick key state_so w
  has_pick w a on = ⊎_elim (λ picked. picked) (λ none. absurd (none a on)) (pick_or_none key is laws state_so.marks (known key is laws taken legal) w mapped)

  pub answered : (w : ℕ) → HasPick key state_so w ⊎ (HasToWait key state_so ⊎ HasEnded key taken)
  answered w = ⊎_elim
      (λ picked. inl picked)
      (λ none. inr (⊎_elim
      (λ any. inl record { none_enabled = none; worker = any.0; place = any.1; runs = any.2 })
      (λ rest. inr record { none_enabled = none; none_run = rest })
      (any_or_none state_so.running key.workers)))
      (pick_or_none key is laws state_so.marks (known key is laws taken legal) w mapped)

  -- ---- open jobs

  pub shallow : (p : Place) (firing : Firing) → state_so.marks p ≡ Open firing → length p < 8
  shallow p firing o =
      let low = deep (rules key) (rank key.graphs.graphs) laws.lawful (top_job key) state_so.marks p firing (known key is laws taken legal).nested o in
      let top = shallow_top key is laws in
      omega arith

  pub few_jobs : (ps : List Place) → Few key.workers state_so.marks → Distinct ps → AreAllOpen state_so.marks ps → length ps ≤ 8 * key.workers
  few_jobs ps few apart o = few_in_all state_so.marks key.workers 8 ps few shallow apart o

pub one_answer : (key : Key) (taken : List Step) (w : ℕ) → IsOneAnswer key taken w
one_answer key taken w = record {
  no_pick_to_wait = λ picked wait. wait.none_enabled (picked.0 ∷ picked.1) picked.2.enabled;
  no_pick_at_end = λ picked ended. ended.none_enabled (picked.0 ∷ picked.1) picked.2.enabled;
  no_wait_at_end = λ wait ended. let none : (state_after key taken).running wait.worker ≡ None = ended.none_run wait.worker wait.runs.0 in let some : (state_after key taken).running wait.worker ≡ Some wait.place = wait.runs.1 in cc;
}

pub alone : (key : Key) (taken : List Step) → key.workers ≡ 1 → (state_after key taken).running 0 ≡ None → HasToWait key (state_after key taken) → ⊥
alone key taken one rests wait =
    let low = wait.runs.0 in
    let first : wait.worker ≡ 0 = omega arith in
    let some : (state_after key taken).running 0 ≡ Some wait.place = ap (state_after key taken).running (sym first) ∙ wait.runs.1 in
    cc

-- ---- other numbers of workers

pub end_alike : (one other : Key) (taken others : List Step) → DifferInWorkers one other → HasOneMeaning other.graphs.graphs → TellsOneThread one taken → TellsOneThread other others → EndAlike (state_after one taken) (state_after other others)
end_alike one other taken others differ once tells tells' =
    let P : Key → Type 0 = λ key. Means key.graphs.graphs (top_job key) tells.end in
    let graphs = differ.graphs in
    let delays = differ.delays in
    let ins = differ.ins in
    let moved : Means other.graphs.graphs (top_job other) tells.end =
    subst P (let from : Key = record { graphs = one.graphs; signatures = other.signatures; delays = one.delays; ins = one.ins; workers = other.workers } in let path : from ≡ other = λ i. record { graphs = graphs i; signatures = other.signatures; delays = delays i; ins = ins i; workers = other.workers } in path) tells.means in
    let same : tells'.end ≡ tells.end = once (top_job other) tells'.end tells.end tells'.means moved in
    record { end = tells.end; one_done = tells.done; other_done = tells'.done ∙ ap (λ (e : End). Done (answer_of e)) same }
