-- A table after a write to the job in one row.
use Rattle.std.proofs.Common.{◌≡◌, ◌≢◌, ◌⊎◌, ⊎_elim, ℕ, ◌<◌, ◌≤◌, List, length, get_or, set, Option, Some, None, refl, sym, ap, ◌∙◌, subst, arith}
use Rattle.std.proofs.lemmas.Bool.{cases_eq}
use Rattle.std.proofs.lemmas.List.{get_or-set_other, get_or-set_same, get_or_past, get_or_read}
use Rattle.job_preparing.specs.Handing.{ItemMarks, Lent, lent_at, mark_at}
use Rattle.job_rules.specs.Words.{Answer}
use Rattle.kernel_gate.specs.Value.{Places}
use Rattle.nested_jobs.specs.Marks.{Free, Mark}
use Rattle.graph_firing.specs.Leases.{CellsStay}
use Rattle.graph_firing.specs.View.{OpenView}
use Rattle.pisdf_meaning.specs.declared.firing.Firing.{Firing}
use Rattle.firing_board.specs.Table.Calls.{AsksAsBefore, LendsAsBefore, LendsItem, MarksItem}
use Rattle.firing_board.specs.Table.Slots.{InSlot}
use Rattle.firing_board.specs.Table.View.{HasJob, TableView, lent_by, lent_in, room_by, room_in, row_at, with_job}
use Rattle.firing_board.specs.declared.table.row.Row.{Row}
use Rattle.firing_board.proofs.OfTable.Rows.{inside_of}

-- ---- reading

pub in_slot : (P : OpenView → Type 0) (v : TableView) (k : ℕ) (slot : Option Row) → HasJob P v k → slot ≡ get_or v.rows k slot → InSlot P slot
in_slot P v k slot has read = subst (InSlot P) (sym (get_or_read v.rows k slot (inside_of v.rows k has.0 has.1) read None ∙ has.1)) has.2

pub has_inside : (P : OpenView → Type 0) (v : TableView) (k : ℕ) → HasJob P v k → k < length v.rows
has_inside P v k has = inside_of v.rows k has.0 has.1

pub slot_row : (v : TableView) (k : ℕ) (row : Row) (slot : Option Row) → row_at v k ≡ Some row → slot ≡ get_or v.rows k slot → slot ≡ Some row
slot_row v k row slot here read = get_or_read v.rows k slot (inside_of v.rows k row here) read None ∙ here

-- ---- marks and loans of one job

pub mark_inside : (marks : ItemMarks) (i : ℕ) (y : Mark Firing Answer) → mark_at marks i ≡ y → y ≢ Free → i < length marks
mark_inside marks i y is ne = ⊎_elim (λ (l : i < length marks). l) (λ past. absurd (ne (sym is ∙ get_or_past marks i Free past))) (split i (length marks))
  where
    split : (a b : ℕ) → (a < b) ⊎ (b ≤ a)
    split a b = grind arith

pub lent_inside : (lent : Lent) (i : ℕ) (places : Places) → lent_at lent i ≡ Some places → i < length lent
lent_inside lent i places is = inside_of lent i places is

-- ---- writing

module _ (old : TableView) (rows : List (Option Row)) (k : ℕ) (row : Row) (job : OpenView) (here : row_at old k ≡ Some row) (written : rows ≡ set old.rows k (Some (with_job row job))) where
  abbrev new : TableView
  new = record { graphs = old.graphs; workers = old.workers; rows = rows }

  pub now : row_at new k ≡ Some (with_job row job)
  now = ap (λ (l : List (Option Row)). get_or l k None) written ∙ get_or-set_same old.rows k (Some (with_job row job)) None (inside_of old.rows k row here)

  pub others : (j : ℕ) → j ≢ k → row_at new j ≡ row_at old j
  others j apart = ap (λ (l : List (Option Row)). get_or l j None) written ∙ get_or-set_other old.rows k j (Some (with_job row job)) None apart

  pub marks_item : (item : ℕ) (y : Mark Firing Answer) → job.graphs ≡ row.job.graphs → job.workers ≡ row.job.workers → job.firing ≡ row.job.firing → CellsStay row.job.cells job.cells
      → mark_at job.marks item ≡ y → ((i : ℕ) → i ≢ item → mark_at job.marks i ≡ mark_at row.job.marks i) → MarksItem k item y old new
  marks_item item y graphs workers firing cells at rest = record {
    graphs_are = refl;
    workers_are = refl;
    before = row;
    here = here;
    after = with_job row job;
    now = now;
    stays = record { place_is = refl; upper_is = refl; steps_are = refl; graphs_are = graphs; workers_are = workers; firing_is = firing; cells_stay = cells };
    marked = at;
    unmarked = rest;
    others = λ j apart again. others j apart;
  }

  lent_here : (i : ℕ) → lent_in new k i ≡ lent_at job.lent i
  lent_here i = ap (λ (r : Option Row). lent_by r i) now

  lent_was : (i : ℕ) → lent_in old k i ≡ lent_at row.job.lent i
  lent_was i = ap (λ (r : Option Row). lent_by r i) here

  lent_other : (j i : ℕ) → j ≢ k → lent_in new j i ≡ lent_in old j i
  lent_other j i apart = ap (λ (r : Option Row). lent_by r i) (others j apart)

  pub lends_item : (item : ℕ) (places : Option Places) → job.lent ≡ set row.job.lent item places → item < length row.job.lent → LendsItem k item places old new
  lends_item item places lent inside = record {
    here = lent_here item ∙ (ap (λ (l : Lent). lent_at l item) lent ∙ get_or-set_same row.job.lent item places None inside);
    in_job = λ i apart. lent_here i ∙ (ap (λ (l : Lent). lent_at l i) lent ∙ (get_or-set_other row.job.lent item i places None apart ∙ sym (lent_was i)));
    others = λ j i apart. lent_other j i apart;
  }

  pub lends_same : ((i : ℕ) → lent_at job.lent i ≡ lent_at row.job.lent i) → LendsAsBefore old new
  lends_same same = λ j i. ⊎_elim
      (λ (e : j ≡ k). ap (λ n. lent_in new n i) e ∙ (lent_here i ∙ (same i ∙ (sym (lent_was i) ∙ ap (λ n. lent_in old n i) (sym e)))))
      (λ apart. lent_other j i apart)
      (cases_eq j k)

  pub rooms_same : job.room ≡ row.job.room → AsksAsBefore old new
  rooms_same same = λ j. ⊎_elim
      (λ (e : j ≡ k). ap (room_in new) e ∙ (ap room_by now ∙ (same ∙ (sym (ap room_by here) ∙ ap (room_in old) (sym e)))))
      (λ apart. ap room_by (others j apart))
      (cases_eq j k)

-- one mark of the job
module _ (old : TableView) (rows : List (Option Row)) (k : ℕ) (row : Row) (job : OpenView) (here : row_at old k ≡ Some row) (written : rows ≡ set old.rows k (Some (with_job row job))) where
  pub marks_set : (item : ℕ) (y : Mark Firing Answer) → job.graphs ≡ row.job.graphs → job.workers ≡ row.job.workers → job.firing ≡ row.job.firing → CellsStay row.job.cells job.cells → job.marks ≡ set row.job.marks item y → item < length row.job.marks
      → MarksItem k item y old record { graphs = old.graphs; workers = old.workers; rows = rows }
  marks_set item y graphs workers firing cells marks inside =
      marks_item old rows k row job here written item y graphs workers firing cells
      (ap (λ (l : ItemMarks). mark_at l item) marks ∙ get_or-set_same row.job.marks item y Free inside)
      (λ i apart. ap (λ (l : ItemMarks). mark_at l i) marks ∙ get_or-set_other row.job.marks item i y Free apart)
