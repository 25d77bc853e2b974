-- The rows of a replay, as boards see them.
use Rattle.std.proofs.Common.{◌≡◌, ◌≢◌, ⊎_elim, ℕ, zero, suc, ◌+◌, ◌<◌, ◌≤◌, true, false, cond, eqb, List, [], ◌∷◌, ◌++◌, length, get_or, set, Option, Some, None, is_some, not, Bool, refl, sym, ap, ◌∙◌, subst, arith}
use Rattle.std.proofs.lemmas.Bool.{cases_eq, cases_lt, eq-eqb, eqb-true}
use Rattle.std.proofs.lemmas.List.{get_or-set_other, get_or-set_same, get_or_past, get_or_push, get_or_append_left, get_or_read, length_push}
use Rattle.std.specs.Option.{option_map}
use Rattle.job_rules.specs.Words.{Answer}
use Rattle.nested_jobs.proofs.Tabling.{put_row_at}
use Rattle.nested_jobs.specs.Marks.{Mark}
use Rattle.nested_jobs.specs.Tables.{put_row, with_mark}
use Rattle.pisdf_meaning.specs.declared.firing.Firing.{Firing}
use Rattle.board_rules.specs.Asking.{JobRow}
use Rattle.board_rules.specs.Board.{hold}
use Rattle.board_rules.specs.Keys.{Key}
use Rattle.audit_job.specs.Jobs.{IsJob}
use Rattle.audit_job.specs.Marking.{Finishes, Marks}
use Rattle.audit_job.specs.Marks.{mark_at}
use Rattle.audit_job.specs.Answering.{IsMarked}
use Rattle.audit_job.specs.declared.job.Job.{Job}
use Rattle.pisdf_model.specs.declared.graph.Graph.{Graph}
use Rattle.journal_audit.specs.Slots.{FinishesSlot, InSlot, MarksRow, MarksSlot}
use Rattle.journal_audit.specs.Standing.{AllJobs}
use Rattle.journal_audit.specs.Table.{IsVacant, SameRows, held_as, held_of, job_row, row_at, table_of}
use Rattle.journal_audit.specs.declared.table.Row.{Row}
use Rattle.journal_audit.specs.declared.table.Run.{Run}

pub inside_of : {X : Type 0} (xs : List (Option X)) (k : ℕ) (x : X) → get_or xs k None ≡ Some x → k < length xs
inside_of [] k x h = absurd (cc)
inside_of (y ∷ ys) zero x h = omega arith
inside_of (y ∷ ys) (suc k) x h = let t = inside_of ys k x h in omega arith

pub the_same : {X : Type 0} (o : Option X) (x y : X) → o ≡ Some x → o ≡ Some y → x ≡ y
the_same o x y h k = cc

pub in_table : (rows : List (Option Row)) (k : ℕ) (row : Row) → row_at rows k ≡ Some row → table_of rows k ≡ Some (job_row row)
in_table rows k row here = ap (option_map job_row) here

-- the row that boards see so
pub row_behind : (o : Option Row) (row : JobRow) → option_map job_row o ≡ Some row → (r : Row) × (o ≡ Some r) × (row ≡ job_row r)
row_behind None row is = absurd (cc)
row_behind (Some r) row is = (r, refl, let same : Some row ≡ Some (job_row r) = sym is in cc)

pub in_slot : (P : Row → Type 0) (o : Option Row) (row : Row) → o ≡ Some row → P row → InSlot P o
in_slot P o row is h = subst (InSlot P) (sym is) h

pub none_of : (o : Option Row) (b : Bool) → is_some o ≡ not b → b ≡ true → o ≡ None
none_of None b is t = refl
none_of (Some row) b is t = let e : true ≡ false = is ∙ ap not t in absurd (cc)

-- what was read at a key
pub slot_is : (rows : List (Option Row)) (k : ℕ) (slot : Option Row) → k < length rows → slot ≡ get_or rows k slot → slot ≡ row_at rows k
slot_is rows k slot inside read = get_or_read rows k slot inside read None

pub run_is : (running : List (Option Run)) (w : ℕ) (run : Option Run) → w < length running → run ≡ get_or running w run → run ≡ get_or running w None
run_is running w run inside read = get_or_read running w run inside read None

pub slot_inside : (P : Row → Type 0) (rows : List (Option Row)) (k : ℕ) → InSlot P (row_at rows k) → k < length rows
slot_inside P rows k is = go (row_at rows k) refl is
  where
    go : (o : Option Row) → row_at rows k ≡ o → InSlot P o → k < length rows
    go None e h = absurd h
    go (Some row) e h = inside_of rows k row e

-- ---- a key is written

pub table_set : (rows : List (Option Row)) (k : ℕ) (slot : Option Row) → k < length rows → table_of (set rows k slot) ≡ put_row (table_of rows) k (option_map job_row slot)
table_set rows k slot inside =
    let at : (l : ℕ) → table_of (set rows k slot) l ≡ put_row (table_of rows) k (option_map job_row slot) l = λ l.
    ⊎_elim
    (λ t. ap (table_of (set rows k slot)) (sym t.0) ∙ (ap (option_map job_row) (get_or-set_same rows k slot None inside) ∙ sym t.1))
    (λ t. ap (option_map job_row) (get_or-set_other rows k l slot None (λ e. t.0 (sym e))) ∙ sym t.1)
    (put_row_at (table_of rows) k (option_map job_row slot) l) in
    λ x l. at l x

pub held_set : (running : List (Option Run)) (w : ℕ) (r : Option Run) → w < length running → held_of (set running w r) ≡ hold (held_of running) w (held_as r)
held_set running w r lt =
    let at : (v : ℕ) → held_of (set running w r) v ≡ hold (held_of running) w (held_as r) v = λ v.
    elim (eqb w v) as (λ b. eqb w v ≡ b → held_of (set running w r) v ≡ cond b (held_as r) (held_of running v)) [
      | true ↦ λ e. ap (λ (x : ℕ). held_of (set running w r) x) (sym (eqb-true w v e)) ∙ ap held_as (get_or-set_same running w r None lt)
      | false ↦ λ e. ap held_as (get_or-set_other running w v r None (λ f. let t = eq-eqb w v (sym f) in cc))
    ]
    refl in
    λ x v. at v x

-- ---- a mark is written

pub marked_row : (before after : Row) (item : ℕ) (mark : Mark Firing Answer) → after.place ≡ before.place → after.job.firing ≡ before.job.firing → IsMarked item mark (mark_at before.job.marks.items) (mark_at after.job.marks.items)
    → job_row after ≡ with_mark (job_row before) item mark
marked_row before after item mark place job marks =
    let at : (j : ℕ) → mark_at after.job.marks.items j ≡ (with_mark (job_row before) item mark).marks j = λ j.
    elim (eqb item j) as (λ b. eqb item j ≡ b → mark_at after.job.marks.items j ≡ cond b mark (mark_at before.job.marks.items j)) [
      | true ↦ λ e. ap (mark_at after.job.marks.items) (sym (eqb-true item j e)) ∙ marks.here
      | false ↦ λ e. marks.others j (λ f. let t = eq-eqb item j (sym f) in cc)
    ]
    refl in
    λ x. record { place = place x; job = job x; marks = λ j. at j x }

pub row_marked : (before after : Row) (item : ℕ) (mark : Mark Firing Answer) → MarksRow item mark before after → job_row after ≡ with_mark (job_row before) item mark
row_marked before after item mark m = marked_row before after item mark m.place_is m.marks.firing_is m.marks.marked

-- ---- jobs stay jobs

pub jobs_set : (key : Key) (rows : List (Option Row)) (k : ℕ) (row : Row) → k < length rows → AllJobs key rows → IsJob key.graphs.graphs key.workers row.job → AllJobs key (set rows k (Some row))
jobs_set key rows k row inside jobs is j r here = ⊎_elim
    (λ (e : j ≡ k).
    let same : row ≡ r = the_same (row_at (set rows k (Some row)) k) row r (get_or-set_same rows k (Some row) None inside) (ap (row_at (set rows k (Some row))) (sym e) ∙ here) in
    subst (λ (x : Row). IsJob key.graphs.graphs key.workers x.job) same is)
    (λ apart. jobs j r (sym (get_or-set_other rows k j (Some row) None apart) ∙ here))
    (cases_eq j k)

pub jobs_less : (key : Key) (rows : List (Option Row)) (k : ℕ) → k < length rows → AllJobs key rows → AllJobs key (set rows k None)
jobs_less key rows k inside jobs j r here = ⊎_elim
    (λ (e : j ≡ k). let no : None ≡ Some r = sym (get_or-set_same rows k None None inside) ∙ (ap (row_at (set rows k None)) (sym e) ∙ here) in absurd (cc))
    (λ apart. jobs j r (sym (get_or-set_other rows k j None None apart) ∙ here))
    (cases_eq j k)

-- ---- a key more

pub pushed_vacant : (rows : List (Option Row)) → IsVacant (rows ++ None ∷ []) (length rows) × SameRows rows (rows ++ None ∷ [])
pushed_vacant rows =
    let long : length (rows ++ None ∷ []) ≡ length rows + 1 = length_push rows None in (
      record { inside = omega arith; none = get_or_push rows None None (length rows) refl },
      λ k. ⊎_elim
          (λ (l : k < length rows). get_or_append_left rows (None ∷ []) None k l)
          (λ (past : length rows ≤ k). go k past ∙ sym (get_or_past rows k None past))
          (cases_lt k (length rows)),
    )
  where
    go : (k : ℕ) → length rows ≤ k → row_at (rows ++ None ∷ []) k ≡ None
    go k past = ⊎_elim
        (λ (e : k ≡ length rows). get_or_push rows None None k (sym e))
        (λ (ne : k ≢ length rows). let long : length (rows ++ None ∷ []) ≡ length rows + 1 = length_push rows None in get_or_past (rows ++ None ∷ []) k None (omega arith))
        (cases_eq k (length rows))

-- ---- a slot is written

pub marks_slot : (item : ℕ) (mark : Mark Firing Answer) (o : Option Row) (row : Row) (job : Job) → o ≡ Some row → Marks item mark row.job job → MarksSlot item mark o (Some record { job = job; place = row.place })
marks_slot item mark o row job is marks =
    let after : Row = record { job = job; place = row.place } in
    subst (λ (x : Option Row). MarksSlot item mark x (Some after)) (sym is) record { after = after; is = refl; marks = record { place_is = refl; marks = marks } }

pub finishes_slot : (graphs : List Graph) (workers item : ℕ) (o : Option Row) (row : Row) (job : Job) → o ≡ Some row → Finishes graphs workers item row.job job → FinishesSlot graphs workers item o (Some record { job = job; place = row.place })
finishes_slot graphs workers item o row job is finishes =
    let after : Row = record { job = job; place = row.place } in
    subst (λ (x : Option Row). FinishesSlot graphs workers item x (Some after)) (sym is) record { after = after; is = refl; place_is = refl; finishes = finishes }
