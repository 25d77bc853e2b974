-- A board at its start.
use Rattle.std.proofs.Common.{◌≡◌, ⊎_elim, ℕ, zero, suc, false, List, [], ◌∷◌, length, map, replicate, get_or, Option, Some, None, refl, sym, ap, ◌∙◌, subst, arith}
use Rattle.std.specs.Prelude.{slice_index_or}
use Rattle.std.proofs.lemmas.Bool.{cases_eq}
use Rattle.std.proofs.lemmas.List.{length-replicate}
use Rattle.std.specs.Option.{option_map}
use Rattle.kernel_gate.specs.Value.{Places}
use Rattle.job_rules.specs.Words.{Answer}
use Rattle.nested_jobs.specs.Marks.{Done, Mark, Open}
use Rattle.pisdf_meaning.specs.declared.firing.Firing.{Firing}
use Rattle.pisdf_model.specs.declared.graph.Graphs.{Graphs}
use Rattle.board_rules.specs.Board.{Held, KeptAs, OpenJobs}
use Rattle.board_rules.specs.BoardLaws.{BoardsStart}
use Rattle.board_rules.specs.Keys.{IsKey, Key, top_job}
use Rattle.board_journal.specs.View.{path_at}
use Rattle.firing_board.specs.Table.Calls.{IsStarted}
use Rattle.firing_board.specs.Table.Laws.{StartsSuit, TablesStart}
use Rattle.firing_board.specs.Table.View.{NothingIsLent, TableView, firing_of, firings_of, lent_by, lent_in, room_by, room_in, row_at, table_of}
use Rattle.firing_board.specs.declared.table.row.Row.{Row}
use Rattle.firing_board.specs.Beginning.{IsStartedOn}
use Rattle.firing_board.specs.Core.{AreNumbered, IsLentToRunners, StandsAt, held_of, lent_of, runners}
use Rattle.firing_board.specs.Invariants.{Keeps}
use Rattle.firing_board.specs.declared.state.Core.{Core}
use Rattle.firing_board.specs.declared.run.Run.{Run}
use Rattle.firing_board.proofs.Rows.{the_same}
use Rattle.firing_board.proofs.Runners.{held_as}

abbrev pub nothing : ℕ → List (Option Run)
nothing n = replicate n None

none_at : (n w : ℕ) → get_or (nothing n) w None ≡ None
none_at zero w = refl
none_at (suc n) zero = refl
none_at (suc n) (suc w) = none_at n w

pub none_run : (n : ℕ) → runners (nothing n) ≡ 0
none_run zero = refl
none_run (suc n) = none_run n

pub none_lent : (table : TableView) (n : ℕ) → lent_of table (nothing n) ≡ replicate n None
none_lent table zero = refl
none_lent table (suc n) = ap (λ (xs : List (Option Places)). None ∷ xs) (none_lent table n)

abbrev nothing_held : Held
nothing_held w = None

none_held : (n : ℕ) → held_of (nothing n) ≡ nothing_held
none_held n =
    let at : (w : ℕ) → held_of (nothing n) w ≡ nothing_held w = λ w. ap held_as (none_at n w) in
    λ x w. at w x

open_not_done : (job : Firing) (x : Answer) → ◌≡◌ {A = Mark Firing Answer} (Open job) (Done x) → ⊥
open_not_done job x is = cc

-- the one firing
pub started_firings : (graphs : Graphs) (workers : ℕ) (top : Firing) (v : TableView) → IsStarted graphs workers top v → firings_of v ≡ Some record { place = []; cells = None } ∷ []
started_firings graphs workers top v s =
    ap (λ (rows : List (Option Row)). map (option_map firing_of) rows) s.rows_are
    ∙ (λ x. Some record { place = s.place_is x; cells = s.fresh.unplaced x } ∷ [])

-- nothing is lent then
pub started_unlent : (graphs : Graphs) (workers : ℕ) (top : Firing) (v : TableView) → IsStarted graphs workers top v → NothingIsLent v
started_unlent graphs workers top v s k i = go (row_at v k) refl
  where
    go : (o : Option Row) → row_at v k ≡ o → lent_in v k i ≡ None
    go None here = ap (λ (o : Option Row). lent_by o i) here
    go (Some row) here = ⊎_elim
        (λ (e : k ≡ s.key).
        let same : s.top ≡ row = the_same (row_at v s.key) s.top row s.here (ap (row_at v) (sym e) ∙ here) in
        ap (λ (o : Option Row). lent_by o i) here ∙ (ap (λ (r : Row). lent_by (Some r) i) (sym same) ∙ s.fresh.unlent.each i))
        (λ other. absurd (let none = s.others k other in cc))
        (cases_eq k s.key)

-- the top job has no nodes yet
pub started_roomless : (graphs : Graphs) (workers : ℕ) (top : Firing) (v : TableView) → IsStarted graphs workers top v → (k : ℕ) → room_in v k ≡ None
started_roomless graphs workers top v s k = ⊎_elim
    (λ (e : k ≡ s.key). ap (room_in v) e ∙ (ap room_by s.here ∙ s.fresh.roomless))
    (λ other. ap room_by (s.others k other))
    (cases_eq k s.key)

module _ (boards_start : BoardsStart) (tables_start : TablesStart) (suit : StartsSuit) (key : Key) (is_key : IsKey key) (c : Core) (s : IsStartedOn key.graphs key.workers (top_job key) c) where
  abbrev st : IsStarted key.graphs key.workers (top_job key) c.table
  st = s.started

  -- the one row
  only_top : (k : ℕ) (row : Row) → row_at c.table k ≡ Some row → (k ≡ st.key) × (st.top ≡ row)
  only_top k row here = ⊎_elim
      (λ (e : k ≡ st.key). (e, the_same (row_at c.table st.key) st.top row st.here (ap (row_at c.table) (sym e) ∙ here)))
      (λ other. absurd (let none = st.others k other in cc))
      (cases_eq k st.key)

  to_runners : IsLentToRunners c.table c.running.items
  to_runners = λ k i places is. absurd (let none = started_unlent key.graphs key.workers (top_job key) c.table st k i in cc)

  numbered : AreNumbered c.table c.numbers.items c.journal.paths
  numbered = λ k row here.
      let t = only_top k row here in
      let zero_at : slice_index_or c.numbers.items k 0 ≡ 0 = ap (λ (ns : List ℕ). slice_index_or ns k 0) s.numbers_are in
      let long : length c.journal.paths ≡ 1 = ap (λ (ps : List (List ℕ)). length ps) s.paths_are in
      let firing : row.job.firing ≡ top_job key = ap (λ (r : Row). r.job.firing) (sym t.1) ∙ st.fresh.firing_is in
      record {
        known = omega (arith, zero_at, long);
        path_is = ap (path_at c.journal.paths) zero_at ∙ (ap (λ (ps : List (List ℕ)). path_at ps 0) s.paths_are ∙ ap (λ (f : Firing). f.path) (sym firing));
      }

  stands : StandsAt key [] c
  stands = record {
    kept =
        let k = boards_start key st.key in
        let table = tables_start key.graphs key.workers (top_job key) c.table st in
        let held : held_of c.running.items ≡ nothing_held = ap held_of s.running_are ∙ none_held key.workers in
        subst (λ (h : Held). KeptAs key [] (table_of c.table) h) (sym held) (subst (λ (v : OpenJobs). KeptAs key [] v nothing_held) (sym table) k);
    suits = suit key c.table is_key st;
    entered = s.entries_are;
    numbered = numbered;
    has_end = λ x done. absurd (open_not_done (top_job key) x done);
  }

  pub begins : Keeps key c false
  begins = record {
    is_key = is_key;
    one_each = ap (λ (rs : List (Option Run)). length rs) s.running_are ∙ length-replicate key.workers None;
    lent = to_runners;
    owners = record {
      each = λ k i j p q a b cell one. absurd (let none = started_unlent key.graphs key.workers (top_job key) c.table st k i in cc);
      apart = λ k l i j p q one other lends. absurd (let none = started_unlent key.graphs key.workers (top_job key) c.table st k i in cc);
    };
    room = let none = ap runners s.running_are ∙ none_run key.workers in omega (arith, none);
    taken = [];
    at = stands;
  }
