-- The rows of a table after a call, as boards see them.
use Rattle.std.proofs.Common.{◌≡◌, ◌≢◌, ⊎_elim, ℕ, zero, suc, ◌<◌, true, false, cond, eqb, List, [], ◌∷◌, length, get_or, Option, Some, None, refl, sym, ap, ◌∙◌, arith}
use Rattle.std.proofs.lemmas.Bool.{eq-eqb, eqb-true}
use Rattle.std.specs.Option.{option_map}
use Rattle.board_rules.specs.Asking.{JobRow}
use Rattle.job_preparing.specs.Handing.{mark_at}
use Rattle.job_rules.specs.Words.{Answer}
use Rattle.nested_jobs.proofs.Tabling.{put_row_at}
use Rattle.nested_jobs.specs.Marks.{Mark, Open}
use Rattle.nested_jobs.specs.Tables.{fresh_row, put_row, with_mark}
use Rattle.pisdf_meaning.specs.declared.firing.Firing.{Firing}
use Rattle.pisdf_model.specs.declared.graph.Graphs.{Graphs}
use Rattle.firing_board.specs.Table.Calls.{IsStarted, MarksItem, OpensChild, StaysAs}
use Rattle.firing_board.specs.Table.View.{TableView, job_row, row_at, table_of}
use Rattle.firing_board.specs.declared.table.row.Row.{Row}

pub inside_of : {X : Type 0} (xs : List (Option X)) (k : ℕ) (x : X) → get_or xs k None ≡ Some x → k < length xs
inside_of [] k x h = absurd (cc)
inside_of (y ∷ ys) zero x h = omega arith
inside_of (y ∷ ys) (suc k) x h = let t = inside_of ys k x h in omega arith

pub the_same : {X : Type 0} (o : Option X) (x y : X) → o ≡ Some x → o ≡ Some y → x ≡ y
the_same o x y h k = cc

-- a row in the words of boards
pub in_table : (v : TableView) (k : ℕ) (row : Row) → row_at v k ≡ Some row → table_of v k ≡ Some (job_row row)
in_table v k row here = ap (option_map job_row) here

pub stays_same : (row : Row) → StaysAs row row
stays_same row = record { place_is = refl; upper_is = refl; steps_are = refl; graphs_are = refl; workers_are = refl; firing_is = refl; cells_stay = λ cells is. is }

-- a row with one mark written
pub marked_row : (before after : Row) (item : ℕ) (mark : Mark Firing Answer) → StaysAs before after → mark_at after.job.marks item ≡ mark
    → ((i : ℕ) → i ≢ item → mark_at after.job.marks i ≡ mark_at before.job.marks i) → job_row after ≡ with_mark (job_row before) item mark
marked_row before after item mark stays here others =
    let at : (j : ℕ) → mark_at after.job.marks j ≡ (with_mark (job_row before) item mark).marks j = λ j.
    elim (eqb item j) as (λ b. eqb item j ≡ b → mark_at after.job.marks j ≡ cond b mark (mark_at before.job.marks j)) [
      | true ↦ λ e. ap (mark_at after.job.marks) (sym (eqb-true item j e)) ∙ here
      | false ↦ λ e. others j (λ f. let t = eq-eqb item j (sym f) in cc)
    ]
    refl in
    let place = stays.place_is in
    let job = stays.firing_is in
    λ x. record { place = place x; job = job x; marks = λ j. at j x }

pub table_marks : (k item : ℕ) (mark : Mark Firing Answer) (old new : TableView) (o : MarksItem k item mark old new) → table_of new ≡ put_row (table_of old) k (Some (with_mark (job_row o.before) item mark))
table_marks k item mark old new o =
    let row = marked_row o.before o.after item mark o.stays o.marked o.unmarked in
    let written : Option JobRow = Some (with_mark (job_row o.before) item mark) in
    let at : (l : ℕ) → table_of new l ≡ put_row (table_of old) k written l = λ l.
    ⊎_elim
    (λ t. ap (table_of new) (sym t.0) ∙ (in_table new k o.after o.now ∙ (ap (λ (r : JobRow). Some r) row ∙ sym t.1)))
    (λ t. ap (option_map job_row) (o.others l (λ e. t.0 (sym e)) (λ e. t.0 (sym e))) ∙ sym t.1)
    (put_row_at (table_of old) k written l) in
    λ x l. at l x

fresh_child : (k item l : ℕ) (old new : TableView) (o : OpensChild k item old l new) → job_row o.child ≡ fresh_row (item ∷ o.upper.place) o.firing
fresh_child k item l old new o =
    let place = o.place_is in
    let job = o.fresh.firing_is in
    let free = o.fresh.free in
    λ x. record { place = place x; job = job x; marks = λ j. free j x }

pub table_opens : (k item l : ℕ) (old new : TableView) (o : OpensChild k item old l new)
    → table_of new ≡ put_row (put_row (table_of old) k (Some (with_mark (job_row o.upper) item (Open o.firing)))) l (Some (fresh_row (item ∷ o.upper.place) o.firing))
table_opens k item l old new o =
    let row = marked_row o.upper o.after item (Open o.firing) o.stays o.marked o.unmarked in
    let written : Option JobRow = Some (with_mark (job_row o.upper) item (Open o.firing)) in
    let child : Option JobRow = Some (fresh_row (item ∷ o.upper.place) o.firing) in
    let at : (j : ℕ) → table_of new j ≡ put_row (put_row (table_of old) k written) l child j = λ j.
    ⊎_elim
    (λ t. ap (table_of new) (sym t.0) ∙ (in_table new l o.child o.added ∙ (ap (λ (r : JobRow). Some r) (fresh_child k item l old new o) ∙ sym t.1)))
    (λ t. ⊎_elim
    (λ u. ap (table_of new) (sym u.0) ∙ (in_table new k o.after o.now ∙ (ap (λ (r : JobRow). Some r) row ∙ (sym u.1 ∙ sym t.1))))
    (λ u. ap (option_map job_row) (o.others j (λ e. u.0 (sym e)) (λ e. t.0 (sym e))) ∙ (sym u.1 ∙ sym t.1))
    (put_row_at (table_of old) k written j))
    (put_row_at (put_row (table_of old) k written) l child j) in
    λ x j. at j x

pub table_starts : (graphs : Graphs) (workers : ℕ) (top : Firing) (v : TableView) (s : IsStarted graphs workers top v) → table_of v ≡ put_row (λ l. None) s.key (Some (fresh_row [] top))
table_starts graphs workers top v s =
    let place = s.place_is in
    let job = s.fresh.firing_is in
    let free = s.fresh.free in
    let row : job_row s.top ≡ fresh_row [] top = λ x. record { place = place x; job = job x; marks = λ j. free j x } in
    let at : (l : ℕ) → table_of v l ≡ put_row (λ l. None) s.key (Some (fresh_row [] top)) l = λ l.
    ⊎_elim
    (λ t. ap (table_of v) (sym t.0) ∙ (in_table v s.key s.top s.here ∙ (ap (λ (r : JobRow). Some r) row ∙ sym t.1)))
    (λ t. ap (option_map job_row) (s.others l (λ e. t.0 (sym e))) ∙ sym t.1)
    (put_row_at (λ l. None) s.key (Some (fresh_row [] top)) l) in
    λ x l. at l x
