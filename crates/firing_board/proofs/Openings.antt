-- Jobs that are opened one in the other, on the way to work.
use Rattle.std.proofs.Common.{◌≡◌, ◌≢◌, ⊎_elim, ℕ, ◌+◌, ◌<◌, List, [], ◌∷◌, ◌++◌, length, length-append, Option, Some, None, refl, sym, ap, ◌∙◌, subst, arith}
use Rattle.std.specs.Prelude.{IfOk, OnErr, OnOk, Result, Ok, Err, slice_index_or}
use Rattle.std.proofs.lemmas.Bool.{cases_eq}
use Rattle.std.proofs.lemmas.List.{get_or_append_left, get_or_at}
use Rattle.job_preparing.specs.Handing.{mark_at}
use Rattle.job_rules.specs.Items.{rule}
use Rattle.job_rules.specs.Meant.{IsFit, rank}
use Rattle.job_rules.specs.Words as words
use Rattle.job_rules.specs.Words.{Answer}
use Rattle.nested_jobs.specs.Marks.{Free, Marks, Open, answer_of, put}
use Rattle.nested_jobs.specs.Meanings.{Lawful}
use Rattle.nested_jobs.specs.Rules.{Call, Place, Task, Values, Work}
use Rattle.graph_firing.specs.View.{answered, task}
use Rattle.pisdf_meaning.specs.declared.firing.Firing.{Firing}
use Rattle.pisdf_model.specs.declared.graph.Graphs.{Graphs}
use Rattle.board_rules.specs.Board.{HasOpened, OpenJobs}
use Rattle.board_rules.specs.BoardLaws.{OneMoreOpened}
use Rattle.board_rules.specs.Keys.{Key, rules}
use Rattle.board_rules.specs.Offers.{AreFirst}
use Rattle.board_journal.specs.View.{path_at}
use Rattle.firing_board.specs.Table.Calls.{OpensChild}
use Rattle.firing_board.specs.Table.Laws.{FirstCallsAreFit, OpeningsSuit, TablesOpen}
use Rattle.firing_board.specs.Table.Suits.{Suits}
use Rattle.firing_board.specs.Table.View.{TableView, job_row, row_at, table_of}
use Rattle.firing_board.specs.declared.table.row.Row.{Row}
use Rattle.firing_board.specs.Core.{AreNumbered}
use Rattle.firing_board.specs.Opening.{Calls, IsOpenTo, KeepsRuns, Reaches}
use Rattle.firing_board.specs.declared.run.Run.{Run}
use Rattle.firing_board.specs.declared.state.Core.{Core}
use Rattle.firing_board.proofs.Rows.{in_table, lasts_on, rows_on, the_same}

-- ---- paths

pub numbered_so : (old new : TableView) (k item l : ℕ) (o : OpensChild k item old l new) (numbers numbers' : List ℕ) (paths paths' : List (List ℕ)) (number : ℕ) (path : List ℕ)
    → number ≡ length paths → paths' ≡ paths ++ path ∷ [] → path ≡ o.child.job.firing.path
    → slice_index_or numbers' l 0 ≡ number
    → ((j : ℕ) → j ≢ l → slice_index_or numbers' j 0 ≡ slice_index_or numbers j 0)
    → AreNumbered old numbers paths → AreNumbered new numbers' paths'
numbered_so old new k item l o numbers numbers' paths paths' number path number_is paths_are path_is here others was = λ j row now. ⊎_elim
    (λ (e : j ≡ l).
    let is : o.child ≡ row = the_same (row_at new l) o.child row o.added (ap (row_at new) (sym e) ∙ now) in
    let at : slice_index_or numbers' j 0 ≡ length paths = ap (λ (x : ℕ). slice_index_or numbers' x 0) e ∙ (here ∙ number_is) in
    let long : length paths' ≡ length paths + 1 = ap (λ (ps : List (List ℕ)). length ps) paths_are ∙ length-append paths (path ∷ []) in
    record {
      known = omega (arith, at, long);
      path_is = ap (path_at paths') at ∙ (ap (λ (ps : List (List ℕ)). path_at ps (length paths)) paths_are ∙ (get_or_at paths path [] [] (length paths) refl ∙ (path_is ∙ ap (λ (r : Row). r.job.firing.path) is)));
    })
    (λ apart.
    let h : (before : Row) × (row_at old j ≡ Some before) × (row.job.firing ≡ before.job.firing) = ⊎_elim
    (λ (e : j ≡ k).
    let is : o.after ≡ row = the_same (row_at new k) o.after row o.now (ap (row_at new) (sym e) ∙ now) in
    (o.upper, ap (row_at old) e ∙ o.here, ap (λ (r : Row). r.job.firing) (sym is) ∙ o.stays.firing_is))
    (λ other. (row, sym (o.others j other apart) ∙ now, refl))
    (cases_eq j k) in
    let kept = was j h.0 h.1 in
    let same = others j apart in
    let long : length paths' ≡ length paths + 1 = ap (λ (ps : List (List ℕ)). length ps) paths_are ∙ length-append paths (path ∷ []) in
    record {
      known = omega (arith, same, kept.known, long);
      path_is = ap (path_at paths') same ∙ (ap (λ (ps : List (List ℕ)). path_at ps (slice_index_or numbers j 0)) paths_are
          ∙ (get_or_append_left paths (path ∷ []) [] (slice_index_or numbers j 0) kept.known ∙ (kept.path_is ∙ ap (λ (f : Firing). f.path) (sym h.2))));
    })
    (cases_eq j l)

-- ---- what stays

pub keeps_on : (a b c : Core) → KeepsRuns a b → KeepsRuns b c → KeepsRuns a c
keeps_on a b c one two = record {
  running_is = two.running_is ∙ one.running_is;
  entries_are = two.entries_are ∙ one.entries_are;
  end_is = two.end_is ∙ one.end_is;
  more = let a = one.more in let b = two.more in omega arith;
  lasts = lasts_on a.table b.table c.table one.lasts two.lasts;
  rows = rows_on a.table b.table c.table one.rows two.rows;
  lent = λ k i. two.lent k i ∙ one.lent k i;
  rooms_are = two.rooms_are ∙ one.rooms_are;
  asked = λ k. two.asked k ∙ one.asked k;
}

pub if_ok : {X E : Type 0} (r : Result X E) (P Q : X → Type 0) → ((x : X) → P x → Q x) → IfOk r P → IfOk r Q
if_ok (Ok x) P Q f is = f x is
if_ok (Err e) P Q f is = is

pub if_ok_with : {X E : Type 0} (r : Result X E) (P R : X → Type 0) (Q : Type 0) → ((x : X) → Q → P x → R x) → OnOk r Q → IfOk r P → IfOk r R
if_ok_with (Ok x) P R Q f q is = f x q is
if_ok_with (Err e) P R Q f q is = is

pub on_err : {X E : Type 0} (r : Result X E) (P Q : Type 0) → (P → Q) → OnErr r P → OnErr r Q
on_err (Ok x) P Q f is = is
on_err (Err e) P Q f is = f is

pub on_err_by : {X E : Type 0} (r : Result X E) (Q : Type 0) → Q → OnErr r Q
on_err_by (Ok x) Q q = tt
on_err_by (Err e) Q q = q

-- ---- the way

first_snoc : (way : List ℕ) → AreFirst way → AreFirst (way ++ 0 ∷ [])
first_snoc [] are = (refl, tt)
first_snoc (j ∷ way) are = (are.0, first_snoc way are.1)

-- what is left of a way, with the item on it that calls the next job
way_on : (way : List ℕ) (place : Place) → (way ++ 0 ∷ []) ++ place ≡ way ++ 0 ∷ place
way_on [] place = refl
way_on (j ∷ way) place = ap (λ (ys : Place). j ∷ ys) (way_on way place)

abbrev none_answered : Values Answer
none_answered i = None

fresh_answers : (row : Row) → ((i : ℕ) → mark_at row.job.marks i ≡ Free) → answered row.job ≡ none_answered
fresh_answers row free =
    let at : (i : ℕ) → answered row.job i ≡ none_answered i = λ i. ap answer_of (free i) in
    λ x i. at i x

-- a task by the graphs of the key
pub task_by : (key : Key) (m : Marks Firing Answer) (v : TableView) (k item : ℕ) (row : Row) (t : Option (Task Firing words.Work)) → Suits key m v → row_at v k ≡ Some row
    → task row.job item ≡ t → rule key.graphs.graphs row.job.firing (answered row.job) item ≡ t
task_by key m v k item row t suits here is = subst (λ (g : Graphs). rule g.graphs row.job.firing (answered row.job) item ≡ t) (suits.rows k row here).graphs_are is

module _ (one_more : OneMoreOpened) (tables_open : TablesOpen) (openings_suit : OpeningsSuit) (first_fit : FirstCallsAreFit) where
  module _ (key : Key) (m : Marks Firing Answer) (old : TableView) (at : Run) (c : Calls key m old at) (child : ℕ) (mid : TableView) (o : OpensChild at.row at.item old child mid) where
    is_upper : o.upper ≡ c.row
    is_upper = the_same (row_at old at.row) o.upper c.row o.here c.here

    abbrev marks : Marks Firing Answer
    marks = put m (at.item ∷ o.upper.place) (Open o.firing)

    pub child_suits : Suits key marks mid
    child_suits = openings_suit key m at.row at.item child old mid o c.suits

    child_place : o.child.place ≡ at.item ∷ c.row.place
    child_place = o.place_is ∙ ap (λ (r : Row). at.item ∷ r.place) is_upper

    -- one job more is open on the way to whatever is below
    pub child_opened : (before : OpenJobs) (n : Marks Firing Answer) → IsOpenTo key before n (table_of old) m (at.item ∷ c.row.place) → IsOpenTo key before n (table_of mid) marks (0 ∷ o.child.place)
    child_opened before n way_open = λ j way.
        let place : (j ∷ (way ++ 0 ∷ [])) ++ at.item ∷ o.upper.place ≡ j ∷ way ++ 0 ∷ o.child.place = ap (λ (ys : Place). j ∷ ys) (way_on way (at.item ∷ o.upper.place)) ∙ ap (λ (ys : Place). j ∷ way ++ 0 ∷ ys) (sym o.place_is) in
        let up : at.item ∷ c.row.place ≡ at.item ∷ o.upper.place = ap (λ (r : Row). at.item ∷ r.place) (sym is_upper) in
        let was : HasOpened key before n ((j ∷ (way ++ 0 ∷ [])) ++ at.item ∷ o.upper.place) (table_of old) m = subst (λ (ys : Place). HasOpened key before n ((j ∷ (way ++ 0 ∷ [])) ++ ys) (table_of old) m) up (way_open j (way ++ 0 ∷ [])) in
        let next = one_more key before n (table_of old) m at.row child at.item j (way ++ 0 ∷ []) (job_row o.upper) o.firing c.suits.is_key was (in_table old at.row o.upper o.here) (ap (Rattle.std.specs.Option.option_map job_row) o.vacant) o.free
        (task_by key m old at.row at.item o.upper (Some (Call o.firing)) c.suits o.here o.task_is) in
        subst (λ (a : Place). HasOpened key before n a (table_of mid) marks) place
        (subst (λ (table : OpenJobs). HasOpened key before n ((j ∷ (way ++ 0 ∷ [])) ++ at.item ∷ o.upper.place) table marks) (sym (tables_open at.row at.item child old mid o)) next)

    child_opened_here : (before : OpenJobs) (n : Marks Firing Answer) → IsOpenTo key before n (table_of old) m (at.item ∷ c.row.place) → HasOpened key before n (0 ∷ o.child.place) (table_of mid) marks
    child_opened_here before n way_open =
        let place : (0 ∷ []) ++ at.item ∷ o.upper.place ≡ 0 ∷ o.child.place = ap (λ (ys : Place). 0 ∷ ys) (sym o.place_is) in
        let up : at.item ∷ c.row.place ≡ at.item ∷ o.upper.place = ap (λ (r : Row). at.item ∷ r.place) (sym is_upper) in
        let was : HasOpened key before n ((0 ∷ []) ++ at.item ∷ o.upper.place) (table_of old) m = subst (λ (ys : Place). HasOpened key before n ((0 ∷ []) ++ ys) (table_of old) m) up (way_open 0 []) in
        let next = one_more key before n (table_of old) m at.row child at.item 0 [] (job_row o.upper) o.firing c.suits.is_key was (in_table old at.row o.upper o.here) (ap (Rattle.std.specs.Option.option_map job_row) o.vacant) o.free
        (task_by key m old at.row at.item o.upper (Some (Call o.firing)) c.suits o.here o.task_is) in
        subst (λ (a : Place). HasOpened key before n a (table_of mid) marks) place
        (subst (λ (table : OpenJobs). HasOpened key before n ((0 ∷ []) ++ at.item ∷ o.upper.place) table marks) (sym (tables_open at.row at.item child old mid o)) next)

    -- the job begins with work
    pub work_reached : (work : words.Work) → task o.child.job 0 ≡ Some (Work work) → Reaches key m old at c.row.place mid record { row = child; item = 0 }
    work_reached work is = record {
      marks = marks;
      suits = child_suits;
      row = o.child;
      here = o.added;
      free = o.fresh.free 0;
      work = work;
      task_is = is;
      first = 0;
      way = [];
      are_first = (refl, tt);
      place_is = ap (λ (ys : Place). 0 ∷ ys) child_place;
      opened = child_opened_here;
    }

    -- or with a call
    pub child_calls : (d : Firing) → task o.child.job 0 ≡ Some (Call d) → Calls key marks mid record { row = child; item = 0 }
    child_calls d is = record {
      suits = child_suits;
      row = o.child;
      here = o.added;
      offered = record { free = o.fresh.free 0; job = d; task_is = is };
      fit = λ firing t.
          let fits : IsFit key.graphs.graphs o.child.job.firing = subst (IsFit key.graphs.graphs) (sym o.fresh.firing_is) (c.fit o.firing (subst (λ (r : Row). task r.job at.item ≡ Some (Call o.firing)) is_upper o.task_is)) in
          first_fit key o.child.job.firing 0 firing c.suits.is_key fits
          (subst (λ (v : Values Answer). rule key.graphs.graphs o.child.job.firing v 0 ≡ Some (Call firing)) (fresh_answers o.child o.fresh.free) (task_by key marks mid child 0 o.child (Some (Call firing)) child_suits o.added t));
    }

    pub call_reached : (new : TableView) (run : Run) → Reaches key marks mid record { row = child; item = 0 } o.child.place new run → Reaches key m old at c.row.place new run
    call_reached new run r = record {
      marks = r.marks;
      suits = r.suits;
      row = r.row;
      here = r.here;
      free = r.free;
      work = r.work;
      task_is = r.task_is;
      first = r.first;
      way = r.way ++ 0 ∷ [];
      are_first = (r.are_first.0, first_snoc r.way r.are_first.1);
      place_is = r.place_is ∙ (ap (λ (ys : Place). r.first ∷ r.way ++ 0 ∷ ys) child_place ∙ sym (ap (λ (ys : Place). r.first ∷ ys) (way_on r.way (at.item ∷ c.row.place))));
      opened = λ before n way_open. r.opened before n (child_opened before n way_open);
    }

    -- its rank is less
    pub rank_falls : Lawful (rules key) (rank key.graphs.graphs) → rank mid.graphs.graphs o.child.job.firing < rank old.graphs.graphs o.upper.job.firing
    rank_falls lawful =
        let less : rank key.graphs.graphs o.firing < rank key.graphs.graphs o.upper.job.firing = lawful.falls o.upper.job.firing (answered o.upper.job) at.item o.firing (task_by key m old at.row at.item o.upper (Some (Call o.firing)) c.suits o.here o.task_is) in
        let one : rank mid.graphs.graphs o.child.job.firing ≡ rank key.graphs.graphs o.firing = ap (λ (g : Graphs). rank g.graphs o.child.job.firing) (o.graphs_are ∙ c.suits.graphs_are) ∙ ap (rank key.graphs.graphs) o.fresh.firing_is in
        let other : rank old.graphs.graphs o.upper.job.firing ≡ rank key.graphs.graphs o.upper.job.firing = ap (λ (g : Graphs). rank g.graphs o.upper.job.firing) c.suits.graphs_are in
        omega (arith, less, one, other)
