-- What the first two rules of the pick keep, and that journals that have ended tell what one thread gets.
use Rattle.std.proofs.Common.{◌≡◌, ◌≢◌, ◌⊎◌, inl, inr, ℕ, ◌<◌, not, Bool, true, false, Some, List, [], ◌∷◌, ◌++◌, length, refl, ap, ◌∙◌, arith}
use Rattle.std.proofs.lemmas.Bool.{lt-ltb, le-ltb}
use Rattle.std.proofs.lemmas.Option.{slice_get_within}
use Rattle.param_resolver.proofs.Sound.{nested}
use Rattle.pisdf_meaning.specs.declared.firing.Firing.{Firing}
use Rattle.nested_jobs.specs.Rules.{Place, Work, Call}
use Rattle.nested_jobs.specs.Marks.{Mark, Free, Busy, Open, Done, Marks, values}
use Rattle.nested_jobs.specs.Steps.{IsEnabled}
use Rattle.nested_jobs.specs.Journals as steps
use Rattle.nested_jobs.specs.Journals.{start, after, state, Legal}
use Rattle.nested_jobs.specs.Invariants.{InJob, Nested}
use Rattle.nested_jobs.specs.Meanings.{Lawful, Meant}
use Rattle.nested_jobs.specs.Pick.{Few, ArePreferredFrom, IsPreferred, Prefers, outer}
use Rattle.nested_jobs.proofs.Counting.{journal_few}
use Rattle.nested_jobs.proofs.Finding.{ready_enabled}
use Rattle.nested_jobs.proofs.Nesting.{after_nested, start_nested}
use Rattle.nested_jobs.proofs.OneStep.{outer_below, outer_open, work_enabled}
use Rattle.nested_jobs.proofs.Places.{tail_is}
use Rattle.nested_jobs.proofs.Telling.{ended_tells}
use Rattle.job_rules.specs.Doing.{Answers}
use Rattle.job_rules.specs.Meant.{meanings, rank}
use Rattle.job_rules.specs.Words as words
use Rattle.job_rules.specs.Words.{Answer}
use Rattle.board_rules.specs.Keys.{IsKey, Key, rules, top_job}
use Rattle.board_rules.specs.Entries.{BoardState, Step}
use Rattle.board_rules.specs.Picks.{IsPick, Standing, goes_before, is_open}
use Rattle.board_rules.specs.Legal.{AreLegal, ArePickedFrom, HasEnded, IsPicked, TellsOneThread, state_after}

-- ---- the first two rules

-- an item whose claim opens a job doesn't go before one of an open job
opener_waits : (a b : Standing) → a.opens ≡ true → b.opens ≡ false → goes_before a b ≡ true → ⊥
opener_waits a b opens open_ before = let e : false ≡ true = rw (opens, open_) at before in cc

-- nor before an item under a deeper open job
deeper_first : (a b : Standing) → a.opens ≡ true → a.depth < b.depth → goes_before a b ≡ true → ⊥
deeper_first a b opens deeper before = go b.opens refl
  where
    go : (x : Bool) → b.opens ≡ x → ⊥
    go false is = opener_waits a b opens is before
    go true is = let e : false ≡ true = rw (opens, is, lt-ltb a.depth b.depth deeper, le-ltb b.depth a.depth (omega arith)) at before in cc

module _ (key : Key) (law : Lawful (rules key) (rank key.graphs.graphs)) where
  abbrev ranks : Firing → ℕ
  ranks = rank key.graphs.graphs

  abbrev Board : Type 0
  Board = Marks Firing Answer

  open_so : (x : Mark Firing Answer) (c : Firing) → x ≡ Open c → is_open x ≡ true
  open_so x c is = ap is_open is

  module _ (m : Board) (keeps : Nested (rules key) (top_job key) m) (w i : ℕ) (p : Place) (pick : IsPick key m w i p) (closed : is_open (m p) ≡ false) where
    no_work : (q : Place) (c : Firing) → m q ≡ Open c → (k : ℕ) (work : words.Work) → m (k ∷ q) ≡ Free → (rules key).rule c (values m q) k ≢ Some (Work work)
    no_work q c o k work free task =
        let job : InJob (rules key) m k q (Work work) = record { job = c; is_open = o; has_task = task } in
        let enabled = work_enabled (rules key) ranks law (top_job key) m k q work keeps free job in
        let other = pick.first k q enabled (λ e. let same = tail_is k i q p e in let shut : is_open (m q) ≡ false = rw (← same) at closed in let open_ = open_so (m q) c o in cc) in
        opener_waits other.one other.other (other.one_stands.opens_is ∙ ap not closed) (other.other_stands.opens_is ∙ ap not (open_so (m q) c o)) other.before

    -- an enabled item below a free item of an open job stands under that job
    below_stands : (q : Place) (c : Firing) → m q ≡ Open c → (k : ℕ) → m (k ∷ q) ≡ Free → (way : List ℕ) → IsEnabled (rules key) m (way ++ k ∷ q) → length (outer m p) < length q → ⊥
    below_stands q c o k free [] enabled deeper =
        let same = outer_open (rules key) ranks law (top_job key) m q c o in
        let other = pick.first k q enabled (λ e. let at = tail_is k i q p e in let shut : is_open (m q) ≡ false = rw (← at) at closed in let open_ = open_so (m q) c o in cc) in
        opener_waits other.one other.other (other.one_stands.opens_is ∙ ap not closed) (other.other_stands.opens_is ∙ ap not (open_so (m q) c o)) other.before
    below_stands q c o k free (j ∷ way) enabled deeper =
        let same : outer m (way ++ k ∷ q) ≡ q = outer_below (rules key) ranks law (top_job key) m k q c way keeps o free in
        let depth = ap (λ (a : Place). length a) same in
        let other = pick.first j (way ++ k ∷ q) enabled (λ e. let at = ap (λ (a : Place). length (outer m a)) (tail_is j i (way ++ k ∷ q) p e) in omega arith) in
        let one_depth = other.one_stands.depth_is in
        let other_depth = other.other_stands.depth_is in
        deeper_first other.one other.other (other.one_stands.opens_is ∙ ap not closed) (omega arith) other.before

    no_deeper : (q : Place) (c : Firing) → m q ≡ Open c → length (outer m p) < length q → (k : ℕ) (d : Firing) → m (k ∷ q) ≡ Free → (rules key).rule c (values m q) k ≢ Some (Call d)
    no_deeper q c o deeper k d free task =
        let ready = ready_enabled (rules key) ranks law (top_job key) m k q keeps record { free = free; task = Call d; in_job = record { job = c; is_open = o; has_task = task } } in
        below_stands q c o k free ready.0 ready.1 deeper

    prefers : Prefers (rules key) m p
    prefers = record { no_work = no_work; no_deeper = no_deeper }

  picked_keeps : (s : BoardState) (w i : ℕ) (p : Place) → Nested (rules key) (top_job key) s.marks → IsPick key s.marks w i p → ((c : Firing) × (s.marks p ≡ Open c)) ⊎ Prefers (rules key) s.marks p
  picked_keeps s w i p keeps pick = go (s.marks p) refl
    where
      go : (x : Mark Firing Answer) → s.marks p ≡ x → ((c : Firing) × (s.marks p ≡ Open c)) ⊎ Prefers (rules key) s.marks p
      go Free is = inr (prefers s.marks keeps w i p pick (ap is_open is))
      go Busy is = inr (prefers s.marks keeps w i p pick (ap is_open is))
      go (Open c) is = inl (c, is)
      go (Done a) is = inr (prefers s.marks keeps w i p pick (ap is_open is))

  step_keeps : (s : BoardState) (step : Step) → Nested (rules key) (top_job key) s.marks → IsPicked key s step → IsPreferred (rules key) s step
  step_keeps s (steps.Claim w []) keeps picked = tt
  step_keeps s (steps.Claim w (i ∷ p)) keeps picked = picked_keeps s w i p keeps picked
  step_keeps s (steps.Finish w answer) keeps picked = tt

  steps_keep : (s : BoardState) (taken : List Step) → Nested (rules key) (top_job key) s.marks → ArePickedFrom key s taken → ArePreferredFrom (rules key) s taken
  steps_keep s [] keeps picked = tt
  steps_keep s (step ∷ taken) keeps picked = (step_keeps s step keeps picked.0, steps_keep (after (rules key) s step) taken (after_nested (rules key) ranks law (top_job key) s step keeps) picked.1)

  pub few_open : (taken : List Step) → IsKey key → AreLegal key taken → Few key.workers (state_after key taken).marks
  few_open taken is legal =
      journal_few (rules key) ranks law (top_job key) key.workers (Answers key.graphs.graphs) taken is.some legal.allowed
      (steps_keep (start (top_job key)) taken (start_nested (rules key) ranks law (top_job key)) legal.picked)

  -- ---- what journals tell

  pub tells : (taken : List Step) → IsKey key → Meant (rules key) (meanings key.graphs.graphs) → AreLegal key taken → HasEnded key taken → TellsOneThread key taken
  tells taken is meant legal ended =
      let most = nested key.graphs is.valid.valid.in_range is.valid.valid.well_formed key.graphs.top (slice_get_within key.graphs.graphs key.graphs.top is.fit.g is.fit.here) in
      let enough : ranks (top_job key) < 8 = omega arith in
      let told = ended_tells (rules key) ranks law (top_job key) (meanings key.graphs.graphs) meant is.fit 8 enough key.workers taken legal.allowed ended in
      record { end = told.2.end; done = told.1 ∙ ap Done told.2.answer_is; means = told.2.means }
