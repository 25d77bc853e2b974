-- Which items are enabled where no open job offers work.
use Rattle.std.proofs.Common.{◌≡◌, ℕ, false, List, [], ◌∷◌, ◌++◌, Option, Some, refl, sym, ap, ap₂, ◌∙◌, subst}
use Rattle.nested_jobs.specs.Invariants.{InJob, Nested}
use Rattle.nested_jobs.specs.Marks.{Busy, Free, Mark, Marks, answer_of, values}
use Rattle.nested_jobs.specs.Meanings.{Lawful}
use Rattle.nested_jobs.specs.Rules.{Call, Place, Task, Values, Work}
use Rattle.nested_jobs.specs.Steps.{IsEnabled, begins, opened, task_at}
use Rattle.nested_jobs.specs.Tables.{StandsFor, answers_in}
use Rattle.nested_jobs.proofs.Finding.{IsReady, OnWay, enabled_by, opened_open, ready_enabled}
use Rattle.nested_jobs.proofs.Places.{one_open, put_here}
use Rattle.nested_jobs.proofs.Turns.{task_is}
use Rattle.job_rules.specs.Items.{rule}
use Rattle.job_rules.specs.Meant.{rank}
use Rattle.job_rules.specs.Words as words
use Rattle.job_rules.specs.Words.{Answer}
use Rattle.pisdf_meaning.specs.declared.firing.Firing.{Firing}
use Rattle.board_rules.specs.Asking.{JobRow, NoRowOffers}
use Rattle.board_rules.specs.Board.{OpenJobs}
use Rattle.board_rules.specs.Keys.{Key, rules, top_job}
use Rattle.board_rules.specs.Picks.{is_open}

abbrev pub tail_of : List ℕ → List ℕ
tail_of [] = []
tail_of (x ∷ xs) = xs

-- what is below a free item is free
pub free_below : (key : Key) (m : Marks Firing Answer) → Nested (rules key) (top_job key) m → (way : List ℕ) (p : Place) → m p ≡ Free → m (way ++ p) ≡ Free
free_below key m nested [] p free = free
free_below key m nested (i ∷ way) p free = nested.fresh i (way ++ p) (free_below key m nested way p free)

module _ (key : Key) (lawful : Lawful (rules key) (rank key.graphs.graphs)) (m : Marks Firing Answer) (nested : Nested (rules key) (top_job key) m) (table : OpenJobs) (stands : StandsFor table m) where
  same_values : (k : ℕ) (row : JobRow) → table k ≡ Some row → values m row.place ≡ answers_in row
  same_values k row here =
      let at : (j : ℕ) → values m row.place j ≡ answers_in row j = λ j. ap answer_of ((stands.rows k row here).items j) in
      λ x j. at j x

  -- an item that a row offers, by the marks
  pub ready_by : (k : ℕ) (row : JobRow) (i : ℕ) (t : Task Firing words.Work) → table k ≡ Some row → row.marks i ≡ Free → rule key.graphs.graphs row.job (answers_in row) i ≡ Some t → IsReady (rules key) m i row.place
  ready_by k row i t here free has =
      let own = stands.rows k row here in
      record {
        free = own.items i ∙ free;
        task = t;
        in_job = record {
          job = row.job;
          is_open = own.is_open;
          has_task = subst (λ (v : Values Answer). rule key.graphs.graphs row.job v i ≡ Some t) (sym (same_values k row here)) has;
        };
      }

  -- in or below an item that a row offers one is enabled
  pub enabled_in : (i : ℕ) (p : Place) → IsReady (rules key) m i p → (way : List ℕ) × IsEnabled (rules key) m (way ++ i ∷ p)
  enabled_in i p ready = ready_enabled (rules key) (rank key.graphs.graphs) lawful (top_job key) m i p nested ready

  module _ (no_work : NoRowOffers key false table) where
    -- a free item whose task is work
    no_work_at : (i : ℕ) (p : Place) (work : words.Work) → m (i ∷ p) ≡ Free → InJob (rules key) m i p (Work work) → ⊥
    no_work_at i p work free job =
        let has = stands.whole p job.job job.is_open in
        let own = stands.rows has.key has.row has.here in
        let same : job.job ≡ has.row.job = one_open m p job.job has.row.job job.is_open (ap m (sym has.place_is) ∙ own.is_open) in
        let by_job = subst (λ (f : Firing). rule key.graphs.graphs f (values m p) i ≡ Some (Work work)) same job.has_task in
        let by_place = subst (λ (q : Place). rule key.graphs.graphs has.row.job (values m q) i ≡ Some (Work work)) (sym has.place_is) by_job in
        no_work has.key has.row has.here i record {
          free = sym (own.items i) ∙ (ap (λ (q : Place). m (i ∷ q)) has.place_is ∙ free);
          task = Work work;
          has_task = subst (λ (v : Values Answer). rule key.graphs.graphs has.row.job v i ≡ Some (Work work)) (same_values has.key has.row has.here) by_place;
          kind = refl;
        }

    -- the claim of a free item that calls a job doesn't make it busy
    no_call_at : (i : ℕ) (p : Place) (d : Firing) → m (i ∷ p) ≡ Free → InJob (rules key) m i p (Call d) → IsEnabled (rules key) m (i ∷ p) → ⊥
    no_call_at i p d free job on =
        let n : Marks Firing Answer = opened (rules key) m p in
        let still : n ≡ m = opened_open (rules key) (rank key.graphs.graphs) lawful (top_job key) m p job.job nested job.is_open in
        let y : Mark Firing Answer = begins (n (i ∷ p)) (task_at (rules key) n i p) in
        let now : begins (m (i ∷ p)) (task_at (rules key) m i p) ≡ Busy = sym (ap (λ (w : Marks Firing Answer). begins (w (i ∷ p)) (task_at (rules key) w i p)) still) ∙ (sym (put_here n (i ∷ p) y) ∙ on.1) in
        let call : task_at (rules key) m i p ≡ Some (Call d) = task_is (rules key) m i p (Call d) job in
        let frees : begins (m (i ∷ p)) (task_at (rules key) m i p) ≡ Free = ap₂ (λ (x : Mark Firing Answer) (t : Option (Task Firing words.Work)). begins x t) free call in
        let both : ◌≡◌ {A = Mark Firing Answer} Free Busy = sym frees ∙ now in
        cc

    neither : (i : ℕ) (p : Place) (t : Task Firing words.Work) → m (i ∷ p) ≡ Free → InJob (rules key) m i p t → IsEnabled (rules key) m (i ∷ p) → ⊥
    neither i p (Work work) free job on = no_work_at i p work free job
    neither i p (Call d) free job on = no_call_at i p d free job on

    -- an enabled item is in a job that isn't open
    pub not_open : (i : ℕ) (p : Place) → IsEnabled (rules key) m (i ∷ p) → is_open (m p) ≡ false
    not_open i p on = go t.way t.is_on_way
      where
        t : OnWay (rules key) m (i ∷ p)
        t = enabled_by (rules key) (rank key.graphs.graphs) lawful (top_job key) m (i ∷ p) nested on

        go : (way : List ℕ) → i ∷ p ≡ way ++ t.item ∷ t.place → is_open (m p) ≡ false
        go [] e = absurd (neither t.item t.place t.ready.task t.ready.free t.ready.in_job (subst (IsEnabled (rules key) m) e on))
        go (j ∷ way) e = ap is_open (ap m (ap tail_of e) ∙ free_below key m nested way (t.item ∷ t.place) t.ready.free)
