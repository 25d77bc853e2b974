-- Jobs that are opened one in the other, on the way to work.
use Rattle.std.proofs.Common.{◌≡◌, ◌≢◌, ⊎_elim, ℕ, zero, suc, ◌<◌, List, [], ◌∷◌, ◌++◌, length, get_or, set, Option, Some, None, refl, sym, ap, ◌∙◌, subst, append_assoc}
use Rattle.std.specs.Prelude.{IfOk, OnOk, Result, Ok, Err}
use Rattle.std.specs.Option.{option_map}
use Rattle.std.proofs.lemmas.Bool.{cases_eq}
use Rattle.std.proofs.lemmas.List.{get_or-set_other, get_or-set_same}
use Rattle.job_rules.specs.Items.{count, rule}
use Rattle.job_rules.specs.Meant.{IsFit, rank}
use Rattle.job_rules.specs.Words as words
use Rattle.job_rules.specs.Words.{Answer}
use Rattle.nested_jobs.proofs.Tabling.{put_row_at}
use Rattle.nested_jobs.specs.Marks.{Free, Marks, Open, answer_of, put}
use Rattle.nested_jobs.specs.Meanings.{Lawful}
use Rattle.nested_jobs.specs.Rules.{Call, Place, Task, Values, Work}
use Rattle.nested_jobs.specs.Tables.{fresh_row, put_row, with_mark}
use Rattle.pisdf_model.specs.Valid.{AreValid}
use Rattle.pisdf_model.specs.declared.graph.Graphs.{Graphs}
use Rattle.pisdf_meaning.specs.declared.firing.Firing.{Firing}
use Rattle.board_rules.specs.Asking.{JobRow}
use Rattle.board_rules.specs.Board.{HasOpened, OpenJobs}
use Rattle.board_rules.specs.BoardLaws.{OneMoreOpened}
use Rattle.board_rules.specs.Keys.{Key, rules}
use Rattle.board_rules.specs.Offers.{AreFirst}
use Rattle.audit_job.specs.Jobs.{IsJob}
use Rattle.audit_job.specs.Marks.{answers, mark_at}
use Rattle.firing_board.specs.Table.Laws.{FirstCallsAreFit}
use Rattle.journal_audit.specs.Opening.{CallsHere, IsChild, IsOpenTo, OpensChild, Reaches}
use Rattle.journal_audit.specs.Standing.{AllJobs, StandsSo}
use Rattle.journal_audit.specs.Table.{job_row, row_at, table_of}
use Rattle.journal_audit.specs.declared.opening.Child.{Child}
use Rattle.journal_audit.specs.declared.table.Row.{Row}
use Rattle.journal_audit.specs.declared.table.Run.{Run}
use Rattle.journal_audit.specs.Slots.{InSlot}
use Rattle.journal_audit.proofs.Rows.{in_slot, in_table, inside_of, row_marked, slot_is, the_same}

pub if_ok : {X E : Type 0} (r : Result X E) (P Q : X → Type 0) → ((x : X) → P x → Q x) → IfOk r P → IfOk r Q
if_ok (Ok x) P Q f is = f x is
if_ok (Err e) P Q f is = is

pub on_ok : {X E : Type 0} (r : Result X E) (P Q : Type 0) → (P → Q) → OnOk r P → OnOk r Q
on_ok (Ok x) P Q f is = f is
on_ok (Err e) P Q f is = is

-- an item that has a task is one of the job's
pub item_inside : (key : Key) (lawful : Lawful (rules key) (rank key.graphs.graphs)) (row : Row) (workers item : ℕ) (t : Task Firing words.Work) → IsJob key.graphs.graphs workers row.job → rule key.graphs.graphs row.job.firing (answers row.job.marks.items) item ≡ Some t → item < length row.job.marks.items
item_inside key lawful row workers item t is task =
    let low : item < count key.graphs.graphs row.job.firing (answers row.job.marks.items) = lawful.counts row.job.firing (answers row.job.marks.items) item t task in
    subst (λ n. item < n) (sym is.one_each) low

-- ---- where an item calls a job

module _ (graphs : Graphs) (key : Key) (m : Marks Firing Answer) (old : List (Option Row)) (at : Run) (c : CallsHere graphs key m old at) where
  pub valid_so : AreValid graphs
  valid_so = subst AreValid c.so.graphs_are c.so.is_key.valid.valid

  pub job_so : IsJob graphs.graphs key.workers c.row.job
  job_so = subst (λ (gs : Graphs). IsJob gs.graphs key.workers c.row.job) c.so.graphs_are (c.so.jobs at.row c.row c.here)

  -- the row is there still where a key was added
  module _ (mid : List (Option Row)) (same : (k : ℕ) → row_at mid k ≡ row_at old k) where
    pub mid_here : row_at mid at.row ≡ Some c.row
    mid_here = same at.row ∙ c.here

    pub mid_inside : at.row < length mid
    mid_inside = inside_of mid at.row c.row mid_here

    pub mid_same : (row : Row) → row_at mid at.row ≡ Some row → c.row ≡ row
    mid_same row is = the_same (row_at mid at.row) c.row row mid_here is

    pub slot_so : (P : Row → Type 0) (slot : Option Row) → slot ≡ get_or mid at.row slot → P c.row → InSlot P slot
    slot_so P slot read h = in_slot P slot c.row (slot_is mid at.row slot mid_inside read ∙ mid_here) h

    pub item_so : Lawful (rules key) (rank key.graphs.graphs) → at.item < length c.row.job.marks.items
    item_so lawful = item_inside key lawful c.row key.workers at.item (Call c.firing) (c.so.jobs at.row c.row c.here) (subst (λ (gs : Graphs). rule gs.graphs c.row.job.firing (answers c.row.job.marks.items) at.item ≡ Some (Call c.firing)) (sym c.so.graphs_are) c.task_is)

-- ---- one job more

module _ (one_more : OneMoreOpened) (graphs : Graphs) (key : Key) (m : Marks Firing Answer) (old : List (Option Row)) (at : Run) (c : CallsHere graphs key m old at) (l : ℕ) (new : List (Option Row)) (o : OpensChild graphs at old l new) where
  abbrev pub firing : Firing
  firing = o.child.called.value

  abbrev place : Place
  place = at.item ∷ o.upper.place

  abbrev pub later : Marks Firing Answer
  later = put m (at.item ∷ o.upper.place) (Open o.child.called.value)

  pub same_upper : c.row ≡ o.upper
  same_upper = the_same (row_at old at.row) c.row o.upper c.here o.here

  pub task_is : rule key.graphs.graphs o.upper.job.firing (answers o.upper.job.marks.items) at.item ≡ Some (Call firing)
  task_is = subst (λ (gs : Graphs). rule gs.graphs o.upper.job.firing (answers o.upper.job.marks.items) at.item ≡ Some (Call firing)) (sym c.so.graphs_are) o.is_child.task_is

  free : mark_at o.upper.job.marks.items at.item ≡ Free
  free = subst (λ (r : Row). mark_at r.job.marks.items at.item ≡ Free) same_upper c.free

  keys_apart : at.row ≢ l
  keys_apart e = let no : None ≡ Some o.upper = sym o.vacant ∙ (ap (row_at old) (sym e) ∙ o.here) in cc

  abbrev pub opened_table : OpenJobs
  opened_table = put_row (put_row (table_of old) at.row (Some (with_mark (job_row o.upper) at.item (Open firing)))) l (Some (fresh_row place firing))

  pub table_is : table_of new ≡ opened_table
  table_is =
      let row = row_marked o.upper o.after at.item (Open firing) o.marks in
      let written : Option JobRow = Some (with_mark (job_row o.upper) at.item (Open firing)) in
      let at_key : (j : ℕ) → table_of new j ≡ opened_table j = λ j.
      ⊎_elim
      (λ t. ap (table_of new) (sym t.0) ∙ (in_table new l o.child.row o.added ∙ (ap (λ (r : JobRow). Some r) o.is_child.row_is ∙ sym t.1)))
      (λ t. ⊎_elim
      (λ u. ap (table_of new) (sym u.0) ∙ (in_table new at.row o.after o.now ∙ (ap (λ (r : JobRow). Some r) row ∙ (sym u.1 ∙ sym t.1))))
      (λ u. ap (option_map job_row) (o.others j (λ e. u.0 (sym e)) (λ e. t.0 (sym e))) ∙ (sym u.1 ∙ sym t.1))
      (put_row_at (table_of old) at.row written j))
      (put_row_at (put_row (table_of old) at.row written) l (Some (fresh_row place firing)) j) in
      λ x j. at_key j x

  vacant : table_of old l ≡ None
  vacant = ap (option_map job_row) o.vacant

  -- opened so far, and now
  pub opens_on : (before : OpenJobs) (n : Marks Firing Answer) → IsOpenTo key before n (table_of old) m place → IsOpenTo key before n (table_of new) later place
  opens_on before n is j way =
      subst (λ (t : OpenJobs). HasOpened key before n (j ∷ way ++ place) t later) (sym table_is)
      (one_more key before n (table_of old) m at.row l at.item j way (job_row o.upper) firing c.so.is_key (is j way) (in_table old at.row o.upper o.here) vacant free task_is)

  nothing_before : IsOpenTo key (table_of old) m (table_of old) m place
  nothing_before j way = record {
    nested = c.so.nested;
    stands = c.so.stands;
    rows = λ k row here. (row, here, refl);
    claims = refl;
    enables = λ e. e;
  }

  opened : HasOpened key (table_of old) m (zero ∷ [] ++ place) (table_of new) later
  opened = opens_on (table_of old) m nothing_before zero []

  pub jobs_on : AllJobs key new
  jobs_on j row now = ⊎_elim
      (λ (e : j ≡ l).
      let same : o.child.row ≡ row = the_same (row_at new l) o.child.row row o.added (ap (row_at new) (sym e) ∙ now) in
      subst (λ (r : Row). IsJob key.graphs.graphs key.workers r.job) same (subst (λ (gs : Graphs). IsJob gs.graphs key.workers o.child.row.job) (sym c.so.graphs_are) (o.is_child.is_job key.workers)))
      (λ other. ⊎_elim
      (λ (e : j ≡ at.row).
      let same : o.after ≡ row = the_same (row_at new at.row) o.after row o.now (ap (row_at new) (sym e) ∙ now) in
      subst (λ (r : Row). IsJob key.graphs.graphs key.workers r.job) same (o.marks.marks.is_job key.graphs.graphs key.workers (c.so.jobs at.row o.upper o.here)))
      (λ apart. c.so.jobs j row (sym (o.others j apart other) ∙ now))
      (cases_eq j at.row))
      (cases_eq j l)

  pub so_on : StandsSo graphs new key later
  so_on = record { is_key = c.so.is_key; graphs_are = c.so.graphs_are; nested = opened.nested; stands = opened.stands; jobs = jobs_on }

  -- ---- the child

  pub child_firing : o.child.row.job.firing ≡ firing
  child_firing = ap (λ (r : JobRow). r.job) o.is_child.row_is

  pub child_place : o.child.row.place ≡ place
  child_place = ap (λ (r : JobRow). r.place) o.is_child.row_is

  pub child_free : (i : ℕ) → mark_at o.child.row.job.marks.items i ≡ Free
  child_free i = ap (λ (r : JobRow). r.marks i) o.is_child.row_is

  pub child_answers : answers o.child.row.job.marks.items ≡ (λ i. None)
  child_answers = let at_item : (i : ℕ) → answers o.child.row.job.marks.items i ≡ None = λ i. ap answer_of (child_free i) in λ x i. at_item i x

  -- its first item calls a job again
  pub child_calls : FirstCallsAreFit → (d : Firing) → rule graphs.graphs o.child.row.job.firing (answers o.child.row.job.marks.items) 0 ≡ Some (Call d) → CallsHere graphs key later new record { row = l; item = 0 }
  child_calls fit d task =
      let is = subst (λ (gs : Graphs). IsJob gs.graphs key.workers o.child.row.job) (sym c.so.graphs_are) (o.is_child.is_job key.workers) in
      let told : rule key.graphs.graphs o.child.row.job.firing (λ i. None) 0 ≡ Some (Call d) =
      subst (λ (v : Values Answer). rule key.graphs.graphs o.child.row.job.firing v 0 ≡ Some (Call d)) child_answers (subst (λ (gs : Graphs). rule gs.graphs o.child.row.job.firing (answers o.child.row.job.marks.items) 0 ≡ Some (Call d)) (sym c.so.graphs_are) task) in
      record {
        so = so_on;
        row = o.child.row;
        here = o.added;
        free = child_free 0;
        firing = d;
        task_is = task;
        fit = subst (λ (gs : Graphs). IsFit gs.graphs d) c.so.graphs_are (fit key o.child.row.job.firing 0 d c.so.is_key is.fit told);
      }

  pub rank_falls : Lawful (rules key) (rank key.graphs.graphs) → rank graphs.graphs o.child.row.job.firing < rank graphs.graphs o.upper.job.firing
  rank_falls lawful =
      let less = lawful.falls o.upper.job.firing (answers o.upper.job.marks.items) at.item firing task_is in
      subst (λ (gs : Graphs). rank gs.graphs o.child.row.job.firing < rank gs.graphs o.upper.job.firing) c.so.graphs_are (subst (λ (d : Firing). rank key.graphs.graphs d < rank key.graphs.graphs o.upper.job.firing) (sym child_firing) less)

  -- ---- or work

  pub work_reached : (work : words.Work) → rule graphs.graphs o.child.row.job.firing (answers o.child.row.job.marks.items) 0 ≡ Some (Work work) → Reaches graphs key m old at.item c.row.place new record { row = l; item = 0 }
  work_reached work task =
      let same : o.upper.place ≡ c.row.place = ap (λ (r : Row). r.place) (sym same_upper) in
      let P : Place → Type 0 = λ p. Reaches graphs key m old at.item p new record { row = l; item = 0 } in
      subst P same record {
        marks = later;
        so = so_on;
        row = o.child.row;
        here = o.added;
        free = child_free 0;
        work = work;
        task_is = subst (λ (gs : Graphs). rule gs.graphs o.child.row.job.firing (answers o.child.row.job.marks.items) 0 ≡ Some (Work work)) (sym c.so.graphs_are) task;
        first = 0;
        way = [];
        are_first = (refl, tt);
        place_is = ap (λ (p : Place). 0 ∷ p) child_place;
        opened = λ before n is. subst (λ (p : Place). HasOpened key before n (0 ∷ p) (table_of new) later) (sym child_place) (opens_on before n is 0 []);
      }

  -- ---- or what a call of its first item reaches

  zeros : (xs : List ℕ) → AreFirst xs → AreFirst (xs ++ 0 ∷ [])
  zeros [] h = (refl, tt)
  zeros (x ∷ xs) h = (h.0, zeros xs h.1)

  pub call_reached : (end : List (Option Row)) (run : Run) → Reaches graphs key later new 0 o.child.row.place end run → Reaches graphs key m old at.item c.row.place end run
  call_reached end run r =
      let same : o.upper.place ≡ c.row.place = ap (λ (x : Row). x.place) (sym same_upper) in
      let P : Place → Type 0 = λ p. Reaches graphs key m old at.item p end run in
      let moved : r.first ∷ r.way ++ 0 ∷ o.child.row.place ≡ r.first ∷ (r.way ++ 0 ∷ []) ++ place =
      ap (λ (p : Place). r.first ∷ r.way ++ 0 ∷ p) child_place ∙ ap (λ (p : Place). r.first ∷ p) (sym (append_assoc r.way (0 ∷ []) place)) in
      subst P same record {
        marks = r.marks;
        so = r.so;
        row = r.row;
        here = r.here;
        free = r.free;
        work = r.work;
        task_is = r.task_is;
        first = r.first;
        way = r.way ++ 0 ∷ [];
        are_first = (r.are_first.0, zeros r.way r.are_first.1);
        place_is = r.place_is ∙ moved;
        opened = λ before n is. r.opened before n (λ j way.
            let on = opens_on before n is j (way ++ 0 ∷ []) in
            let there : j ∷ (way ++ 0 ∷ []) ++ place ≡ j ∷ way ++ 0 ∷ o.child.row.place = ap (λ (p : Place). j ∷ p) (append_assoc way (0 ∷ []) place) ∙ ap (λ (p : Place). j ∷ way ++ 0 ∷ p) (sym child_place) in
            subst (λ (a : Place). HasOpened key before n a (table_of new) later) there on);
      }

-- ---- the writes

module _ (graphs : Graphs) (at : Run) (old mid : List (Option Row)) (l : ℕ) (same : (k : ℕ) → row_at mid k ≡ row_at old k) (inside : l < length mid) (none : row_at mid l ≡ None) where
  -- an item of a row is marked, and a row is put
  pub opens_by : (upper : Row) → row_at mid at.row ≡ Some upper → (child : Child) → IsChild graphs upper at.item child → (after : Row) → Rattle.journal_audit.specs.Slots.MarksRow at.item (Open child.called.value) upper after →
      OpensChild graphs at old l (set (set mid at.row (Some after)) l (Some child.row))
  opens_by upper here child is after marks =
      let apart : at.row ≢ l = λ e. (let no : None ≡ Some upper = sym none ∙ (ap (row_at mid) (sym e) ∙ here) in cc) in
      let first : List (Option Row) = set mid at.row (Some after) in
      let long : l < length first = subst (λ n. l < n) (sym (Rattle.std.proofs.Common.length-set mid at.row (Some after))) inside in
      record {
        upper = upper;
        here = sym (same at.row) ∙ here;
        child = child;
        is_child = is;
        after = after;
        now = get_or-set_other first l at.row (Some child.row) None apart ∙ get_or-set_same mid at.row (Some after) None (inside_of mid at.row upper here);
        marks = marks;
        vacant = sym (same l) ∙ none;
        added = get_or-set_same first l (Some child.row) None long;
        others = λ j other past. get_or-set_other first l j (Some child.row) None past ∙ (get_or-set_other mid at.row j (Some after) None other ∙ same j);
      }
