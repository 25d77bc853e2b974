-- The path of an open job, step by step.
use Rattle.std.proofs.Common.{◌≡◌, ℕ, ◌-◌, ◌<◌, List, [], ◌∷◌, ◌++◌, length, take, drop, length-append, length-drop, Option, Some, None, refl, sym, ap, ◌∙◌, subst, arith}
use Rattle.std.specs.Prelude.{slice_index}
use Rattle.std.proofs.lemmas.List.{take_all}
use Rattle.job_rules.specs.Items.{graph_of, prepared_in, rule}
use Rattle.job_rules.specs.Meant.{rank}
use Rattle.job_rules.specs.Words.{Answer}
use Rattle.nested_jobs.proofs.Nesting.{of_open}
use Rattle.nested_jobs.proofs.Tabling.{answers_are}
use Rattle.nested_jobs.specs.Invariants.{InJob}
use Rattle.nested_jobs.specs.Marks.{Mark, Marks, Open, values}
use Rattle.nested_jobs.specs.Meanings.{Lawful}
use Rattle.nested_jobs.specs.Rules.{Call, Place, Values}
use Rattle.pisdf_model.specs.Valid.{AreValid}
use Rattle.pisdf_model.specs.declared.graph.Graphs.{Graphs}
use Rattle.pisdf_meaning.specs.declared.firing.Firing.{Firing}
use Rattle.board_rules.specs.Asking.{JobRow}
use Rattle.board_rules.specs.Keys.{Key, rules, top_job}
use Rattle.board_rules.specs.Picks.{step_in, step_of_item, steps_to}
use Rattle.audit_job.specs.Marks.{answers}
use Rattle.audit_job.specs.Naming.{IsValidJob}
use Rattle.journal_audit.specs.Standing.{IsOpenAt, StandsSo, last_step, step_under}
use Rattle.journal_audit.specs.Table.{IsAt, IsKeyOf, job_row, row_at, table_of}
use Rattle.journal_audit.specs.declared.table.Row.{Row}
use Rattle.journal_audit.proofs.Rows.{in_table, row_behind}

-- a place without its first item, as a part of it is taken
pub tail_is : (place : List ℕ) → take (length place - 1) (drop 1 place) ≡ drop 1 place
tail_is place = let cut = length-drop 1 place in take_all (length place - 1) (drop 1 place) (omega arith)

abbrev pub AllLawful : Type 0
AllLawful = (graphs : Graphs) → AreValid graphs → Lawful (Rattle.job_rules.specs.Items.job_rules graphs.graphs) (rank graphs.graphs)

module _ (law : AllLawful) (graphs : Graphs) (rows : List (Option Row)) (key : Key) (m : Marks Firing Answer) (so : StandsSo graphs rows key m) where
  pub lawful : Lawful (rules key) (rank key.graphs.graphs)
  lawful = law key.graphs so.is_key.valid.valid

  -- the job round an open job
  pub upper_of : (i : ℕ) (p : Place) (d : Firing) → m (i ∷ p) ≡ Open d → InJob (rules key) m i p (Call d)
  upper_of i p d opened = of_open (rules key) (rank key.graphs.graphs) lawful (top_job key) m i p d so.nested opened

  -- its row
  pub record HasRowAt (p : Place) : Type 0 where
    pub k : ℕ
    pub row : Row
    pub here : row_at rows k ≡ Some row
    pub place_is : row.place ≡ p

  pub row_of_open : (p : Place) (d : Firing) → m p ≡ Open d → HasRowAt p
  row_of_open p d opened =
      let h = so.stands.whole p d opened in
      let b = row_behind (row_at rows h.key) h.row h.here in
      record { k = h.key; row = b.0; here = b.1; place_is = ap (λ (r : JobRow). r.place) (sym b.2) ∙ h.place_is }

  -- it is found
  pub found_at : (p : Place) → IsOpenAt m p → IsKeyOf rows p None → ⊥
  found_at p opened none =
      let h = row_of_open p opened.0 opened.1 in
      none h.k (subst (λ (o : Option Row). IsAt p o) (sym h.here) h.place_is)

  pub row_found : (p : Place) (k : ℕ) → IsAt p (row_at rows k) → (row : Row) × (row_at rows k ≡ Some row) × (row.place ≡ p)
  row_found p k is = go (row_at rows k) refl is
    where
      go : (o : Option Row) → row_at rows k ≡ o → IsAt p o → (row : Row) × (row_at rows k ≡ Some row) × (row.place ≡ p)
      go None e h = absurd h
      go (Some row) e h = (row, e, h)

  -- ---- the last step

  step_at : (i : ℕ) (p : Place) (c : Firing) → m p ≡ Open c → last_step key m (i ∷ p) ≡ step_of_item key (graph_of key.graphs.graphs c) c i (prepared_in (graph_of key.graphs.graphs c) (values m p))
  step_at i p c opened = ap (step_under key m p i) opened

  pub valid_job : (k : ℕ) (row : Row) → row_at rows k ≡ Some row → IsValidJob row.job
  valid_job k row here = record { graphs = key.graphs; workers = key.workers; valid = so.is_key.valid.valid; is_job = so.jobs k row here }

  pub answers_so : (k : ℕ) (row : Row) → row_at rows k ≡ Some row → values m row.place ≡ answers row.job.marks.items
  answers_so k row here = answers_are (table_of rows) m so.stands k (job_row row) (in_table rows k row here)

  pub record IsStep (place : Place) (row : Row) : Type 0 where
    pub called : Firing
    pub task_is : rule key.graphs.graphs row.job.firing (answers row.job.marks.items) (slice_index place 0) ≡ Some (Call called)
    pub step_is : step_of_item key (graph_of key.graphs.graphs row.job.firing) row.job.firing (slice_index place 0) (prepared_in (graph_of key.graphs.graphs row.job.firing) (answers row.job.marks.items)) ≡ last_step key m place

  pub step_by : (place : Place) → 0 < length place → IsOpenAt m place → (k : ℕ) (row : Row) → row_at rows k ≡ Some row → row.place ≡ drop 1 place → IsStep place row
  step_by [] some opened k row here place_is = absurd (omega arith)
  step_by (i ∷ p) some opened k row here place_is =
      let up = upper_of i p opened.0 opened.1 in
      let own = so.stands.rows k (job_row row) (in_table rows k row here) in
      let open_p : m p ≡ Open row.job.firing = ap m (sym place_is) ∙ own.is_open in
      let same : up.job ≡ row.job.firing = (let e = sym up.is_open ∙ open_p in let f : ◌≡◌ {A = Mark Firing Answer} (Open up.job) (Open row.job.firing) = e in cc) in
      let told : values m p ≡ answers row.job.marks.items = ap (values m) (sym place_is) ∙ answers_so k row here in
      record {
        called = opened.0;
        task_is = subst (λ (v : Values Answer). rule key.graphs.graphs row.job.firing v i ≡ Some (Call opened.0)) told (subst (λ (c : Firing). rule key.graphs.graphs c (values m p) i ≡ Some (Call opened.0)) same up.has_task);
        step_is = sym (step_at i p row.job.firing open_p ∙ ap (λ (v : Values Answer). step_of_item key (graph_of key.graphs.graphs row.job.firing) row.job.firing i (prepared_in (graph_of key.graphs.graphs row.job.firing) v)) told);
      }

  pub open_round : (place : Place) → 0 < length place → IsOpenAt m place → IsOpenAt m (drop 1 place)
  open_round [] some opened = absurd (omega arith)
  open_round (i ∷ p) some opened = let up = upper_of i p opened.0 opened.1 in (up.job, up.is_open)

  -- ---- paths

  pub path_more : (i : ℕ) (p : Place) → IsOpenAt m p → steps_to key m (i ∷ p) ≡ steps_to key m p ++ last_step key m (i ∷ p) ∷ []
  path_more i p opened =
      ap (λ (x : Mark Firing Answer). steps_to key m p ++ step_in key m p i x) opened.1
      ∙ ap (λ (s : ℕ × ℕ). steps_to key m p ++ s ∷ []) (sym (step_at i p opened.0 opened.1))

  pub path_long : (p : Place) → IsOpenAt m p → length (steps_to key m p) ≡ length p
  path_long [] opened = refl
  path_long (i ∷ p) opened =
      let up = upper_of i p opened.0 opened.1 in
      let rest = path_long p (up.job, up.is_open) in
      let more = ap (λ (l : List (ℕ × ℕ)). length l) (path_more i p (up.job, up.is_open)) in
      let l = length-append (steps_to key m p) (last_step key m (i ∷ p) ∷ []) in
      omega arith
