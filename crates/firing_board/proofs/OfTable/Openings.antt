-- A table after a job is opened, or after memory was wanted for it.
use Rattle.std.proofs.Common.{◌≡◌, ◌≢◌, ◌⊎◌, ⊎_elim, ℕ, zero, suc, ◌+◌, ◌<◌, List, [], ◌∷◌, ◌++◌, length, get_or, set, replicate, Option, Some, None, Result, Ok, Err, OnErr, refl, sym, ap, ◌∙◌, subst, arith}
use Rattle.std.proofs.lemmas.Bool.{cases_eq}
use Rattle.std.proofs.lemmas.List.{get_or-set_other, get_or-set_same, get_or_read, length-set}
use Rattle.std.specs.declared.alloc.AllocError.{AllocError}
use Rattle.job_preparing.specs.Handing.{IsNothingLent, ItemMarks, Lent, lent_at, mark_at}
use Rattle.job_rules.specs.Words.{Answer}
use Rattle.nested_jobs.specs.Marks.{Busy, Free, Mark, Open, answer_of}
use Rattle.nested_jobs.specs.Rules.{Call}
use Rattle.graph_firing.specs.Calls.{with_mark}
use Rattle.graph_firing.specs.Paths.{step_of}
use Rattle.graph_firing.specs.View.{HasItem, OpenView, compilation_of, free_in, free_one, task, total}
use Rattle.pisdf_meaning.specs.declared.firing.Firing.{Firing}
use Rattle.pisdf_model.specs.declared.graph.Graphs.{Graphs}
use Rattle.firing_board.specs.Table.Calls.{AsksAsBefore, IsFresh, IsStarted, LendsAsBefore, OpensChild, SpoilsItem, StaysAs}
use Rattle.firing_board.specs.Table.Slots.{CallsIn, CallsItem, InSlot, IsVacant, SameRows}
use Rattle.firing_board.specs.Table.View.{TableView, free_by, free_items, lent_by, lent_in, room_by, room_in, row_at, with_job}
use Rattle.firing_board.specs.declared.table.row.Row.{Row}
use Rattle.firing_board.proofs.OfTable.Freeing.{marks_freed, row_freed, same_free}
use Rattle.firing_board.proofs.OfTable.Rows.{inside_of, stays_same, the_same}
use Rattle.firing_board.proofs.OfTable.Writes.{slot_row}

-- ---- fresh jobs

repeated : {X : Type 0} (n i : ℕ) (d : X) → get_or (replicate n d) i d ≡ d
repeated zero i d = refl
repeated (suc n) zero d = refl
repeated (suc n) (suc i) d = repeated n i d

pub is_fresh : (graphs : Graphs) (workers : ℕ) (firing : Firing) (job : OpenView) (n : ℕ) → job.graphs ≡ graphs → job.workers ≡ workers → job.firing ≡ firing → job.cells ≡ None → job.room ≡ None → job.marks ≡ replicate n Free → job.lent ≡ replicate n None
    → free_in job.marks ≡ compilation_of job + 1 → IsFresh graphs workers firing job
is_fresh graphs workers firing job n graphs_are workers_are firing_is unplaced roomless marks lent many = record {
  graphs_are = graphs_are;
  workers_are = workers_are;
  firing_is = firing_is;
  unplaced = unplaced;
  roomless = roomless;
  free = λ i. ap (λ (l : ItemMarks). mark_at l i) marks ∙ repeated n i Free;
  many = many;
  unlent = record { each = λ i. ap (λ (l : Lent). lent_at l i) lent ∙ repeated n i None };
}

pub started : (graphs : Graphs) (workers : ℕ) (firing : Firing) (top : Row) (rows : List (Option Row)) → IsFresh graphs workers firing top.job → top.place ≡ [] → top.upper ≡ None → top.steps ≡ [] → rows ≡ Some top ∷ []
    → IsStarted graphs workers firing record { graphs = graphs; workers = workers; rows = rows }
started graphs workers firing top rows fresh place upper steps are = record {
  graphs_are = refl;
  workers_are = refl;
  key = 0;
  key_is = refl;
  top = top;
  here = ap (λ (l : List (Option Row)). get_or l 0 None) are;
  fresh = fresh;
  place_is = place;
  upper_is = upper;
  steps_are = steps;
  others = λ k apart. ap (λ (l : List (Option Row)). get_or l k None) are ∙ past k apart;
  rows_are = are;
  many = let all = ap (total free_by) are in let own = fresh.many in omega (arith, all, own);
}
  where
    past : (k : ℕ) → k ≢ 0 → get_or (Some top ∷ []) k None ≡ None
    past zero apart = absurd (apart refl)
    past (suc k) apart = refl

-- ---- openings

-- the table as it is and as it is seen, the rows once a key is vacant, and what stands at the key of the row round the new one
module _ (v now : TableView) (e : v ≡ now) (rows : List (Option Row)) (same : SameRows v.rows rows) (k item : ℕ) (slot : Option Row) (read : slot ≡ get_or rows k slot) (row : Row) (here : row_at now k ≡ Some row) where
  at_key : (j : ℕ) → get_or rows j None ≡ row_at now j
  at_key j = same j ∙ ap (λ (x : TableView). row_at x j) e

  here_rows : get_or rows k None ≡ Some row
  here_rows = at_key k ∙ here

  pub row_slot : slot ≡ Some row
  row_slot = slot_row record { graphs = v.graphs; workers = v.workers; rows = rows } k row slot here_rows read

  -- after a write to that row
  module _ (slot' : Option Row) (after : Row) (is : slot' ≡ Some after) where
    abbrev mid : TableView
    mid = record { graphs = v.graphs; workers = v.workers; rows = set rows k slot' }

    mid_here : row_at mid k ≡ Some after
    mid_here = get_or-set_same rows k slot' None (inside_of rows k row here_rows) ∙ is

    mid_other : (j : ℕ) → j ≢ k → row_at mid j ≡ row_at now j
    mid_other j apart = get_or-set_other rows k j slot' None apart ∙ at_key j

    module _ (stays : StaysAs row after) (lent : after.job.lent ≡ row.job.lent) (asks : after.job.room ≡ row.job.room) where
      mid_lent : LendsAsBefore now mid
      mid_lent = λ j i. ⊎_elim
          (λ (t : j ≡ k).
          ap (λ n. lent_in mid n i) t
          ∙ (ap (λ (r : Option Row). lent_by r i) mid_here ∙ (ap (λ (l : Lent). lent_at l i) lent ∙ (sym (ap (λ (r : Option Row). lent_by r i) here) ∙ ap (λ n. lent_in now n i) (sym t)))))
          (λ apart. ap (λ (r : Option Row). lent_by r i) (mid_other j apart))
          (cases_eq j k)

      mid_asks : AsksAsBefore now mid
      mid_asks = λ j. ⊎_elim
          (λ (t : j ≡ k). ap (room_in mid) t ∙ (ap room_by mid_here ∙ (asks ∙ (sym (ap room_by here) ∙ ap (room_in now) (sym t)))))
          (λ apart. ap room_by (mid_other j apart))
          (cases_eq j k)

      pub spoils : answer_of (mark_at after.job.marks item) ≡ None → ((i : ℕ) → i ≢ item → mark_at after.job.marks i ≡ mark_at row.job.marks i) → SpoilsItem k item now mid × LendsAsBefore now mid × AsksAsBefore now mid
      spoils unanswered unmarked = (
        record {
          graphs_are = ap (λ (x : TableView). x.graphs) e;
          workers_are = ap (λ (x : TableView). x.workers) e;
          before = row;
          here = here;
          after = after;
          now = mid_here;
          stays = stays;
          unanswered = unanswered;
          unmarked = unmarked;
          others = λ j apart again. mid_other j apart;
        },
        mid_lent,
        mid_asks,
      )

      -- and with a new row at a vacant key
      module _ (l : ℕ) (vacant : IsVacant rows l) where
        apart_l : l ≢ k
        apart_l t = let no : None ≡ Some row = sym vacant.none ∙ (ap (λ j. get_or rows j None) t ∙ here_rows) in cc

        mid_vacant : row_at mid l ≡ None
        mid_vacant = get_or-set_other rows k l slot' None apart_l ∙ vacant.none

        mid_inside : l < length (set rows k slot')
        mid_inside = let t = length-set rows k slot' in let u = vacant.inside in omega arith

        pub vacant_slot : (other : Option Row) → other ≡ get_or (set rows k slot') l other → other ≡ None
        vacant_slot other at = get_or_read (set rows k slot') l other mid_inside at None ∙ mid_vacant

        abbrev new : Option Row → TableView
        new child = record { graphs = v.graphs; workers = v.workers; rows = set (set rows k slot') l child }

        module _ (child : Row) (child' : Option Row) (child_is : child' ≡ Some child) where
          new_here : row_at (new child') l ≡ Some child
          new_here = get_or-set_same (set rows k slot') l child' None mid_inside ∙ child_is

          new_other : (j : ℕ) → j ≢ l → row_at (new child') j ≡ row_at mid j
          new_other j apart = get_or-set_other (set rows k slot') l j child' None apart

          pub opens : (firing : Firing) → task row.job item ≡ Some (Call firing) → mark_at row.job.marks item ≡ Free → free_in after.job.marks + 1 ≡ free_in row.job.marks → mark_at after.job.marks item ≡ Open firing
              → ((i : ℕ) → i ≢ item → mark_at after.job.marks i ≡ mark_at row.job.marks i) → IsFresh v.graphs v.workers firing child.job → child.place ≡ item ∷ row.place → child.upper ≡ Some k → child.steps ≡ row.steps ++ step_of row.job item ∷ []
              → OpensChild k item now l (new child')
          opens firing task_is free fewer marked unmarked fresh place upper steps = record {
            graphs_are = ap (λ (x : TableView). x.graphs) e;
            workers_are = ap (λ (x : TableView). x.workers) e;
            upper = row;
            here = here;
            firing = firing;
            task_is = task_is;
            free = free;
            after = after;
            now = new_other k (λ t. apart_l (sym t)) ∙ mid_here;
            stays = stays;
            marked = marked;
            unmarked = unmarked;
            vacant = sym (at_key l) ∙ vacant.none;
            child = child;
            added = new_here;
            fresh = subst (λ (x : TableView). IsFresh x.graphs x.workers firing child.job) e fresh;
            place_is = place;
            upper_is = upper;
            steps_are = steps;
            others = λ j away apart. new_other j apart ∙ mid_other j away;
            many =
                let one = row_freed rows k (Some row) slot' (inside_of rows k row here_rows) here_rows in
                let two = row_freed (set rows k slot') l None child' mid_inside mid_vacant in
                let was : free_by slot' ≡ free_in after.job.marks = ap free_by is in
                let own : free_by child' ≡ free_in child.job.marks = ap free_by child_is in
                let all = same_free v.rows rows same in
                let seen : free_items v ≡ free_items now = ap free_items e in
                omega (arith, one, two, was, own, all, seen, fewer, fresh.many);
          }

          pub opens_lent : IsNothingLent child.job.lent → LendsAsBefore now (new child')
          opens_lent nothing = λ j i. ⊎_elim
              (λ (t : j ≡ l).
              ap (λ n. lent_in (new child') n i) t
              ∙ (ap (λ (r : Option Row). lent_by r i) new_here ∙ (nothing.each i ∙ (sym (ap (λ (r : Option Row). lent_by r i) (sym (at_key l) ∙ vacant.none)) ∙ ap (λ n. lent_in now n i) (sym t)))))
              (λ apart. ap (λ (r : Option Row). lent_by r i) (new_other j apart) ∙ mid_lent j i)
              (cases_eq j l)

          pub opens_asks : child.job.room ≡ None → AsksAsBefore now (new child')
          opens_asks roomless = λ j. ⊎_elim
              (λ (t : j ≡ l). ap (room_in (new child')) t ∙ (ap room_by new_here ∙ (roomless ∙ (sym (ap room_by (sym (at_key l) ∙ vacant.none)) ∙ ap (room_in now) (sym t)))))
              (λ apart. ap room_by (new_other j apart) ∙ mid_asks j)
              (cases_eq j l)

  -- ---- the item that is opened

  pub call_of : (firing : Firing) (slot' : Option Row) → CallsIn item (Ok firing) slot slot' → CallsItem item firing row.job slot' row
  call_of firing slot' calls = subst (λ (s : Option Row). CallsIn item (Ok firing) s slot') row_slot calls

  pub opened_stays : (y : Mark Firing Answer) → StaysAs row (with_job row (with_mark row.job item y))
  opened_stays y = record { place_is = refl; upper_is = refl; steps_are = refl; graphs_are = refl; workers_are = refl; firing_is = refl; cells_stay = λ cells is. is }

  pub opened_mark : (y : Mark Firing Answer) → item < length row.job.marks → mark_at (set row.job.marks item y) item ≡ y
  opened_mark y inside = get_or-set_same row.job.marks item y Free inside

  pub opened_others : (y : Mark Firing Answer) (i : ℕ) → i ≢ item → mark_at (set row.job.marks item y) i ≡ mark_at row.job.marks i
  opened_others y i apart = get_or-set_other row.job.marks item i y Free apart

  pub opened_free : (firing : Firing) → item < length row.job.marks → mark_at row.job.marks item ≡ Free → free_in (set row.job.marks item (Open firing)) + 1 ≡ free_in row.job.marks
  opened_free firing inside free = let all = marks_freed row.job.marks item (Open firing) inside in let one = ap free_one free in omega (arith, all, one)

  -- and no more, where memory is wanted then
  pub call_spoils : (result : Result Firing AllocError) (slot' : Option Row) → CallsIn item result slot slot' → item < length row.job.marks → mark_at row.job.marks item ≡ Free
      → SpoilsItem k item now record { graphs = v.graphs; workers = v.workers; rows = set rows k slot' } × LendsAsBefore now record { graphs = v.graphs; workers = v.workers; rows = set rows k slot' } × AsksAsBefore now record { graphs = v.graphs; workers = v.workers; rows = set rows k slot' }
  call_spoils (Ok firing) slot' calls inside free =
      let t = call_of firing slot' calls in
      spoils slot' (with_job row (with_mark row.job item (Open firing))) t.new_is (opened_stays (Open firing)) refl refl (ap answer_of (opened_mark (Open firing) inside)) (opened_others (Open firing))
  call_spoils (Err error) slot' calls inside free =
      let t : (slot' ≡ Some row) ⊎ (slot' ≡ Some (with_job row (with_mark row.job item Busy))) = subst (λ (s : Option Row). CallsIn item (Err error) s slot') row_slot calls in
      ⊎_elim
      (λ is. spoils slot' row is (stays_same row) refl refl (ap answer_of free) (λ i apart. refl))
      (λ is. spoils slot' (with_job row (with_mark row.job item Busy)) is (opened_stays Busy) refl refl (ap answer_of (opened_mark Busy inside)) (opened_others Busy))
      t

  pub item_there : InSlot (λ (job : OpenView). HasItem job item) slot → item < length row.job.marks
  item_there there = (subst (InSlot (λ (job : OpenView). HasItem job item)) row_slot there).marked

  -- the row, as it was read
  pub read_row : (r : Row) → slot ≡ Some r → r ≡ row
  read_row r is = the_same slot r row is row_slot

pub err_with : {T P : Type 0} (r : Result T AllocError) → P → OnErr r P
err_with (Ok x) p = tt
err_with (Err error) p = p
