-- One step of the closings: a job is closed, and the item that called it is finished.
use Rattle.std.proofs.Common.{◌≡◌, ◌≢◌, ◌↔◌, ℕ, ◌<◌, ◌≤◌, Bool, IsTrue, length, get_or, set, slice_index, Option, Some, None, Result, sym, ap, ◌∙◌, subst, arith}
use Rattle.job_preparing.specs.Handing.{EndSuits, end_of, mark_at}
use Rattle.job_preparing.specs.declared.handing.JobGiven.{JobGiven}
use Rattle.job_rules.specs.Words.{answer_of}
use Rattle.nested_jobs.specs.Marks.{Done, Open}
use Rattle.nested_jobs.specs.Rules.{Place}
use Rattle.graph_firing.specs.Calls as job
use Rattle.graph_firing.specs.View.{IsQuiet, OpenView, free_in, free_one, outcome_in}
use Rattle.pisdf_meaning.specs.declared.firing.Firing.{Firing}
use Rattle.pisdf_meaning.specs.declared.refusal.Refusal.{Refusal}
use Rattle.pisdf_model.specs.declared.graph.Graphs.{Graphs}
use Rattle.board_rules.specs.BoardLaws.{ClosingsEnd, ClosingsGoOn, ClosingsStop}
use Rattle.board_rules.specs.Legal.{state_after}
use Rattle.firing_board.specs.Table.Closing.{Closes, ClosesTo, IsClosingFrom, RowsStay, steps_with}
use Rattle.firing_board.specs.Table.Slots.{InSlot, change_row}
use Rattle.firing_board.specs.Table.Suits.{IsUpper, Suits}
use Rattle.firing_board.specs.Table.View.{TableView, free_by, free_items, row_at, with_job}
use Rattle.firing_board.specs.declared.table.row.Row.{Row}
use Rattle.firing_board.proofs.OfTable.Closings.{AllLawful, HasUpper, called, depth_of, end_so, keys_apart, left, next_so, next_stays, none_busy_at, rows_less, stop_so, top_in, top_so, upper_in}
use Rattle.firing_board.proofs.OfTable.Freeing.{less_free, marks_freed, row_freed}
use Rattle.firing_board.proofs.OfTable.Rows.{inside_of, the_same}
use Rattle.firing_board.proofs.OfTable.Writes.{mark_inside, slot_row}

-- ---- whether the job is quiet

pub quiet_by : (row : Row) (slot : Option Row) (b : Bool) → slot ≡ Some row → InSlot (λ (job : OpenView). IsTrue b ↔ IsQuiet job) slot → IsTrue b → IsQuiet row.job
quiet_by row slot b is told e = (subst (InSlot (λ (job : OpenView). IsTrue b ↔ IsQuiet job)) is told).0 e

pub unquiet_by : (row : Row) (slot : Option Row) (b : Bool) → slot ≡ Some row → InSlot (λ (job : OpenView). IsTrue b ↔ IsQuiet job) slot → ¬ (IsTrue b) → ¬ (IsQuiet row.job)
unquiet_by row slot b is told unquiet quiet = unquiet ((subst (InSlot (λ (job : OpenView). IsTrue b ↔ IsQuiet job)) is told).1 quiet)

pub stops : (lawful : AllLawful) (stop : ClosingsStop) (now : TableView) (k : ℕ) (row : Row) → row_at now k ≡ Some row → ¬ (IsQuiet row.job) → Closes now k now None
stops lawful stop now k row here unquiet = record {
  closed = λ c. (at c).0;
  suits = λ c. (at c).1;
  top = λ c none. top_so lawful now k c (at c).1;
}
  where
    at : (c : IsClosingFrom now k) → ClosesTo c now None × Suits c.key (state_after c.key (steps_with c)).marks now
    at c = stop_so lawful now k c stop (subst (λ (r : Row). ¬ (IsQuiet r.job)) (the_same (row_at now k) row c.row here c.here) unquiet)

-- ---- the job is closed

pub record HasClosed (now : TableView) (k : ℕ) (row : Row) (end : Result JobGiven Refusal) (rest : TableView) : Type 0 where
  pub here : row_at now k ≡ Some row
  pub quiet : IsQuiet row.job
  pub outcome : answer_of (end_of end) ≡ outcome_in row.job
  pub suits : EndSuits row.job.graphs.graphs row.job.firing (end_of end)
  pub graphs_are : rest.graphs ≡ now.graphs
  pub workers_are : rest.workers ≡ now.workers
  pub rows_are : rest.rows ≡ set now.rows k None

module _ (lawful : AllLawful) (now : TableView) (k : ℕ) (row : Row) (end : Result JobGiven Refusal) (rest : TableView) (s : HasClosed now k row end rest) where
  module _ (c : IsClosingFrom now k) where
    same : row ≡ c.row
    same = the_same (row_at now k) row c.row s.here c.here

    pub quiet_own : IsQuiet c.row.job
    quiet_own = subst (λ (r : Row). IsQuiet r.job) same s.quiet

    pub rest_stays : RowsStay now rest
    rest_stays = rows_less now rest k s.graphs_are s.workers_are s.rows_are (inside_of now.rows k row s.here) (none_busy_at lawful now k c quiet_own)

    pub outcome_own : answer_of (end_of end) ≡ outcome_in c.row.job
    outcome_own = s.outcome ∙ ap (λ (r : Row). outcome_in r.job) same

    pub upper_own : IsUpper now c.row.place row.upper
    upper_own = subst (IsUpper now c.row.place) (ap (λ (r : Row). r.upper) (sym same)) (c.suits.rows k c.row c.here).upper_is

  -- which was the top job
  pub ends : ClosingsEnd → row.upper ≡ None → Closes now k rest (Some end)
  ends law top = record { closed = λ c. (at c).0; suits = λ c. (at c).1; top = λ c (none : Some end ≡ None). absurd (cc) }
    where
      at : (c : IsClosingFrom now k) → ClosesTo c rest (Some end) × Suits c.key (state_after c.key (steps_with c)).marks rest
      at c = end_so lawful now k c (quiet_own c) law rest (top_in now c.row.place (subst (IsUpper now c.row.place) top (upper_own c))) s.graphs_are s.workers_are s.rows_are end (outcome_own c)

  -- or was called by an item of another
  module _ (go_on : ClosingsGoOn) (l : ℕ) (below : row.upper ≡ Some l) where
    module _ (c : IsClosingFrom now k) where
      abbrev pub above : HasUpper now c.row.place l
      above = upper_in now c.row.place l (subst (IsUpper now c.row.place) below (upper_own c))

      pub upper_inside : l < length now.rows
      upper_inside = inside_of now.rows l above.upper above.here

      pub place_some : 0 < length row.place
      place_some = let t = ap length (ap (λ (r : Row). r.place) (same c) ∙ above.place_is) in omega arith

      pub item_is : slice_index row.place 0 ≡ above.item
      item_is = ap (λ (p : Place). slice_index p 0) (ap (λ (r : Row). r.place) (same c) ∙ above.place_is)

      upper_key : l ≢ k
      upper_key = keys_apart lawful now k c (quiet_own c) go_on l above.item above.upper above.here above.place_is

      pub rest_here : row_at rest l ≡ Some above.upper
      rest_here = left now rest k s.rows_are l upper_key ∙ above.here

      -- the item may be finished with this end
      pub may_finish : (slot : Option Row) → slot ≡ get_or rest.rows l slot → InSlot (λ (job : OpenView). (d : Firing) × (mark_at job.marks (slice_index row.place 0) ≡ Open d) × EndSuits job.graphs.graphs d (end_of end)) slot
      may_finish slot read =
          let is = slot_row rest l above.upper slot rest_here read in
          let P : OpenView → Type 0 = λ job. (d : Firing) × (mark_at job.marks (slice_index row.place 0) ≡ Open d) × EndSuits job.graphs.graphs d (end_of end) in
          let mark = ap (mark_at above.upper.job.marks) item_is ∙ called lawful now k c (quiet_own c) go_on l above.item above.upper above.here above.place_is in
          let suits_own : EndSuits c.row.job.graphs.graphs c.row.job.firing (end_of end) = subst (λ (r : Row). EndSuits r.job.graphs.graphs r.job.firing (end_of end)) (same c) s.suits in
          let graphs : c.row.job.graphs ≡ above.upper.job.graphs = (c.suits.rows k c.row c.here).graphs_are ∙ sym (c.suits.rows l above.upper above.here).graphs_are in
          let suited = subst (λ (g : Graphs). EndSuits g.graphs c.row.job.firing (end_of end)) graphs suits_own in
          subst (InSlot P) (sym is) (c.row.job.firing, mark, suited)

      -- and once it is, the closings go on from there
      module _ (slot slot' : Option Row) (read : slot ≡ get_or rest.rows l slot) (written : slot' ≡ change_row (λ (j : OpenView). job.with_mark j (slice_index row.place 0) (Done (answer_of (end_of end)))) slot) where
        abbrev pub mid : TableView
        mid = record { graphs = rest.graphs; workers = rest.workers; rows = set rest.rows l slot' }

        pub slot_written : slot' ≡ Some (with_job above.upper (job.with_mark above.upper.job above.item (Done (answer_of (end_of end)))))
        slot_written =
            let is = slot_row rest l above.upper slot rest_here read in
            written ∙ (ap (change_row (λ (j : OpenView). job.with_mark j (slice_index row.place 0) (Done (answer_of (end_of end))))) is
            ∙ ap (λ i. Some (with_job above.upper (job.with_mark above.upper.job i (Done (answer_of (end_of end)))))) item_is)

        abbrev pub next : IsClosingFrom mid l
        next = next_so lawful now k c (quiet_own c) go_on l above.item above.upper above.here above.place_is rest mid (answer_of (end_of end)) (outcome_own c) s.graphs_are s.workers_are s.rows_are (ap (set rest.rows l) slot_written)

        pub stays_on : RowsStay now mid
        stays_on = next_stays lawful now k c (quiet_own c) go_on l above.item above.upper above.here above.place_is rest mid (answer_of (end_of end)) (outcome_own c) s.graphs_are s.workers_are s.rows_are (ap (set rest.rows l) slot_written)

        pub mid_free : free_items mid ≤ free_items now
        mid_free =
            let less = less_free now rest k row s.here (inside_of now.rows k row s.here) s.rows_are in
            let open_is = called lawful now k c (quiet_own c) go_on l above.item above.upper above.here above.place_is in
            let none : free_one (mark_at above.upper.job.marks above.item) ≡ 0 = ap free_one open_is in
            let own = marks_freed above.upper.job.marks above.item (Done (answer_of (end_of end))) (mark_inside above.upper.job.marks above.item (Open c.row.job.firing) open_is (λ no. cc)) in
            let all = row_freed rest.rows l (Some above.upper) slot' (inside_of rest.rows l above.upper rest_here) rest_here in
            let after : free_by slot' ≡ free_in (set above.upper.job.marks above.item (Done (answer_of (end_of end)))) = ap free_by slot_written in
            omega (arith, less, none, own, all, after)

        pub falls : depth_of (row_at mid l) < depth_of (row_at now k)
        falls =
            let one = ap depth_of next.here in
            let other = ap depth_of c.here in
            let deep = ap length above.place_is in
            omega arith

    -- whatever the closings come to from there
    pub closes_on : (slot slot' : Option Row) (read : slot ≡ get_or rest.rows l slot) (written : slot' ≡ change_row (λ (j : OpenView). job.with_mark j (slice_index row.place 0) (Done (answer_of (end_of end)))) slot)
        → (new : TableView) (o : Option (Result JobGiven Refusal)) → Closes record { graphs = rest.graphs; workers = rest.workers; rows = set rest.rows l slot' } l new o → Closes now k new o
    closes_on slot slot' read written new o closes = record {
      closed = λ c. go c o (closes.closed (next c slot slot' read written));
      suits = λ c. closes.suits (next c slot slot' read written);
      top = λ c none. closes.top (next c slot slot' read written) none;
    }
      where
        go : (c : IsClosingFrom now k) (o : Option (Result JobGiven Refusal)) → ClosesTo (next c slot slot' read written) new o → ClosesTo c new o
        go c None h = h
        go c (Some e) h = h
