-- Rows of a table, as boards see them, and what lasts of them.
use Rattle.std.proofs.Common.{◌≡◌, ◌≢◌, ⊎_elim, ℕ, zero, suc, ◌+◌, List, [], ◌∷◌, length, map, Option, Some, None, refl, sym, ap, ◌∙◌, subst}
use Rattle.std.specs.Prelude.{slice_index_or}
use Rattle.std.proofs.lemmas.Bool.{cases_eq}
use Rattle.std.specs.Option.{option_map}
use Rattle.job_preparing.specs.Handing.{mark_at}
use Rattle.nested_jobs.specs.Marks.{Busy, Free, Mark, answer_of}
use Rattle.job_rules.specs.Words.{Answer}
use Rattle.kernel_gate.specs.Value.{Places}
use Rattle.pisdf_meaning.specs.declared.firing.Firing.{Firing}
use Rattle.firing_board.specs.Table.Calls.{MarksItem, OpensChild, SpoilsItem, StaysAs}
use Rattle.firing_board.specs.Table.Closing.{RowsStay}
use Rattle.firing_board.specs.Table.View.{FiringView, TableView, firing_of, firings_of, job_row, keys_from, keys_of, lent_by, lent_in, row_at, table_of}
use Rattle.firing_board.specs.declared.table.row.Row.{Row}
use Rattle.firing_board.specs.Core.{RowsGoOn, RowsHaveOwners, RowsLast}
use Rattle.firing_board.specs.Firings.{FiringsGoOn, GoesOn, firing_at, open_count}
use Rattle.firing_board.specs.Starved.{Lasts, LastsIn}

pub the_same : {X : Type 0} (o : Option X) (x y : X) → o ≡ Some x → o ≡ Some y → x ≡ y
the_same o x y h k = cc

pub in_table : (v : TableView) (k : ℕ) (row : Row) → row_at v k ≡ Some row → table_of v k ≡ Some (job_row row)
in_table v k row here = ap (option_map job_row) here

pub stays_same : (row : Row) → StaysAs row row
stays_same row = record { place_is = refl; upper_is = refl; steps_are = refl; graphs_are = refl; workers_are = refl; firing_is = refl; cells_stay = λ cells is. is }

pub stays_on : (a b c : Row) → StaysAs a b → StaysAs b c → StaysAs a c
stays_on a b c one two = record {
  place_is = two.place_is ∙ one.place_is;
  upper_is = two.upper_is ∙ one.upper_is;
  steps_are = two.steps_are ∙ one.steps_are;
  graphs_are = two.graphs_are ∙ one.graphs_are;
  workers_are = two.workers_are ∙ one.workers_are;
  firing_is = two.firing_is ∙ one.firing_is;
  cells_stay = λ cells is. two.cells_stay cells (one.cells_stay cells is);
}

pub lasts_same : (row : Row) → LastsIn row row
lasts_same row = record { stays = stays_same row; busy = λ i busy. busy; answered = λ i a is. is }

-- an item of a row changes that was free
pub lasts_but : (before after : Row) (item : ℕ) → StaysAs before after → mark_at before.job.marks item ≡ Free
    → ((i : ℕ) → i ≢ item → mark_at after.job.marks i ≡ mark_at before.job.marks i) → LastsIn before after
lasts_but before after item stays free others = record {
  stays = stays;
  busy = λ i busy. ⊎_elim
      (λ (e : i ≡ item). let is : mark_at before.job.marks item ≡ Busy = ap (mark_at before.job.marks) (sym e) ∙ busy in absurd (cc))
      (λ apart. others i apart ∙ busy)
      (cases_eq i item);
  answered = λ i a is. ⊎_elim
      (λ (e : i ≡ item).
      let was : answer_of (mark_at before.job.marks i) ≡ None = ap answer_of (ap (mark_at before.job.marks) e ∙ free) in
      absurd (cc))
      (λ apart. ap answer_of (others i apart) ∙ is)
      (cases_eq i item);
}

pub spoils_lasts : (k item : ℕ) (old new : TableView) (s : SpoilsItem k item old new) → mark_at s.before.job.marks item ≡ Free → Lasts old new
spoils_lasts k item old new s free = record {
  graphs_are = s.graphs_are;
  workers_are = s.workers_are;
  rows = λ l i before here busy. ⊎_elim
      (λ (e : l ≡ k).
      let same : s.before ≡ before = the_same (row_at old k) s.before before s.here (ap (row_at old) (sym e) ∙ here) in
      (s.after, ap (row_at new) e ∙ s.now, subst (λ (r : Row). LastsIn r s.after) same (lasts_but s.before s.after item s.stays free s.unmarked)))
      (λ apart. (before, s.others l apart apart ∙ here, lasts_same before))
      (cases_eq l k);
}

pub opens_lasts : (k item l : ℕ) (old new : TableView) → OpensChild k item old l new → Lasts old new
opens_lasts k item l old new o = record {
  graphs_are = o.graphs_are;
  workers_are = o.workers_are;
  rows = λ j i before here busy. ⊎_elim
      (λ (e : j ≡ k).
      let same : o.upper ≡ before = the_same (row_at old k) o.upper before o.here (ap (row_at old) (sym e) ∙ here) in
      (o.after, ap (row_at new) e ∙ o.now, subst (λ (r : Row). LastsIn r o.after) same (lasts_but o.upper o.after item o.stays o.free o.unmarked)))
      (λ apart. ⊎_elim
      (λ (e : j ≡ l). let none : row_at old j ≡ None = ap (row_at old) e ∙ o.vacant in absurd (cc))
      (λ other. (before, o.others j apart other ∙ here, lasts_same before))
      (cases_eq j l))
      (cases_eq j k);
}

pub lasts_in_on : (a b c : Row) → LastsIn a b → LastsIn b c → LastsIn a c
lasts_in_on a b c one two = record {
  stays = stays_on a b c one.stays two.stays;
  busy = λ i busy. two.busy i (one.busy i busy);
  answered = λ i x is. two.answered i x (one.answered i x is);
}

pub lasts_on : (a b c : TableView) → Lasts a b → Lasts b c → Lasts a c
lasts_on a b c one two = record {
  graphs_are = two.graphs_are ∙ one.graphs_are;
  workers_are = two.workers_are ∙ one.workers_are;
  rows = λ k i before here busy.
      let mid = one.rows k i before here busy in
      let last = two.rows k i mid.0 mid.1 (mid.2.busy i busy) in
      (last.0, last.1, lasts_in_on before mid.0 last.0 mid.2 last.2);
}

pub lasts_refl : (a : TableView) → Lasts a a
lasts_refl a = record { graphs_are = refl; workers_are = refl; rows = λ k i before here busy. (before, here, lasts_same before) }

-- ---- rows that go on

pub opens_rows : (k item l : ℕ) (old new : TableView) → OpensChild k item old l new → RowsLast old new
opens_rows k item l old new o = λ j before here. ⊎_elim
    (λ (e : j ≡ k).
    let same : o.upper ≡ before = the_same (row_at old k) o.upper before o.here (ap (row_at old) (sym e) ∙ here) in
    (o.after, ap (row_at new) e ∙ o.now, subst (λ (r : Row). StaysAs r o.after) same o.stays))
    (λ apart. ⊎_elim
    (λ (e : j ≡ l). let none : row_at old j ≡ None = ap (row_at old) e ∙ o.vacant in absurd (cc))
    (λ other. (before, o.others j apart other ∙ here, stays_same before))
    (cases_eq j l))
    (cases_eq j k)

pub spoils_rows : (k item : ℕ) (old new : TableView) → SpoilsItem k item old new → RowsLast old new
spoils_rows k item old new s = λ j before here. ⊎_elim
    (λ (e : j ≡ k).
    let same : s.before ≡ before = the_same (row_at old k) s.before before s.here (ap (row_at old) (sym e) ∙ here) in
    (s.after, ap (row_at new) e ∙ s.now, subst (λ (r : Row). StaysAs r s.after) same s.stays))
    (λ apart. (before, s.others j apart apart ∙ here, stays_same before))
    (cases_eq j k)

pub marks_rows : (k item : ℕ) (y : Mark Firing Answer) (old new : TableView) → MarksItem k item y old new → RowsLast old new
marks_rows k item y old new m = λ j before here. ⊎_elim
    (λ (e : j ≡ k).
    let same : m.before ≡ before = the_same (row_at old k) m.before before m.here (ap (row_at old) (sym e) ∙ here) in
    (m.after, ap (row_at new) e ∙ m.now, subst (λ (r : Row). StaysAs r m.after) same m.stays))
    (λ apart. (before, m.others j apart apart ∙ here, stays_same before))
    (cases_eq j k)

pub rows_on : (a b c : TableView) → RowsLast a b → RowsLast b c → RowsLast a c
rows_on a b c one two = λ k before here.
    let mid = one k before here in
    let last = two k mid.0 mid.1 in
    (last.0, last.1, stays_on before mid.0 last.0 mid.2 last.2)

pub rows_same : (a b : TableView) → b ≡ a → RowsLast a b
rows_same a b same = λ k before here. (before, ap (λ (t : TableView). row_at t k) same ∙ here, stays_same before)

pub last_go_on : (a b : TableView) → RowsLast a b → RowsGoOn a b
last_go_on a b last = λ k before after here now.
    let l = last k before here in
    subst (StaysAs before) (the_same (row_at b k) l.0 after l.1 now) l.2

-- rows that last, and of which some are then closed
pub rows_close : (a b c : TableView) → RowsLast a b → RowsStay b c → RowsGoOn a c
rows_close a b c last stay = λ k before after here now.
    let l = last k before here in
    let s = stay.rows k after now in
    stays_on before l.0 after l.2 (subst (λ (r : Row). StaysAs r after) (the_same (row_at b k) s.0 l.0 s.1 l.1) s.2)

-- ---- firings

pub firing_here : (rows : List (Option Row)) (k : ℕ) → firing_at (map (option_map firing_of) rows) k ≡ option_map firing_of (slice_index_or rows k None)
firing_here [] k = refl
firing_here (row ∷ rows) zero = refl
firing_here (row ∷ rows) (suc k) = firing_here rows k

behind : (o : Option Row) (f : FiringView) → option_map firing_of o ≡ Some f → (row : Row) × (o ≡ Some row) × (firing_of row ≡ f)
behind None f is = absurd (cc)
behind (Some row) f is = (row, refl, cc)

-- the row of an open firing
pub row_behind_firing : (v : TableView) (k : ℕ) (f : FiringView) → firing_at (firings_of v) k ≡ Some f → (row : Row) × (row_at v k ≡ Some row) × (firing_of row ≡ f)
row_behind_firing v k f is = behind (row_at v k) f (sym (firing_here v.rows k) ∙ is)

pub firing_in : (v : TableView) (k : ℕ) (row : Row) → row_at v k ≡ Some row → firing_at (firings_of v) k ≡ Some (firing_of row)
firing_in v k row here = firing_here v.rows k ∙ ap (option_map firing_of) here

pub firings_go_on : (old new : TableView) → RowsGoOn old new → FiringsGoOn (firings_of old) (firings_of new)
firings_go_on old new rows = λ k before after here now.
    let b = row_behind_firing old k before here in
    let a = row_behind_firing new k after now in
    let stays = rows k b.0 a.0 b.1 a.1 in
    subst (λ (f : FiringView). GoesOn f after) b.2 (subst (λ (f : FiringView). GoesOn (firing_of b.0) f) a.2 (record { place_is = stays.place_is; cells_stay = stays.cells_stay }))

pub all_go_on : (firings : List (Option FiringView)) → FiringsGoOn firings firings
all_go_on firings = λ k before after here now.
    let same : before ≡ after = the_same (firing_at firings k) before after here now in
    subst (GoesOn before) same (record { place_is = refl; cells_stay = λ cells is. is })

keys_count : (k : ℕ) (rows : List (Option Row)) → length (keys_from k rows) ≡ open_count (map (option_map firing_of) rows)
keys_count k [] = refl
keys_count k (None ∷ rows) = keys_count (k + 1) rows
keys_count k (Some row ∷ rows) = ap (λ (n : ℕ). suc n) (keys_count (k + 1) rows)

pub keys_open : (v : TableView) → length (keys_of v) ≡ open_count (firings_of v)
keys_open v = keys_count 0 v.rows

-- ---- owners

pub lends_row : (o : Option Row) (i : ℕ) (p : Places) → lent_by o i ≡ Some p → (row : Row) × (o ≡ Some row)
lends_row None i p is = absurd (cc)
lends_row (Some row) i p is = (row, refl)

-- where no more is lent than before, nothing is lent twice
pub owners_stay : (old new : TableView) → RowsHaveOwners old → RowsGoOn old new → ((k i : ℕ) (p : Places) → lent_in new k i ≡ Some p → lent_in old k i ≡ Some p) → RowsHaveOwners new
owners_stay old new owners rows less = record {
  each = λ k n m p q a b cell one two has other. owners.each k n m p q a b cell (less k n p one) (less k m q two) has other;
  apart = λ k l i j p q one other lends_one lends_other here there same.
      let was = lends_row (row_at old k) i p (less k i p lends_one) in
      let were = lends_row (row_at old l) j q (less l j q lends_other) in
      let stays = rows k was.0 one was.1 here in
      let stay = rows l were.0 other were.1 there in
      owners.apart k l i j p q was.0 were.0 (less k i p lends_one) (less l j q lends_other) was.1 were.1 (sym stays.place_is ∙ (same ∙ stay.place_is));
}
