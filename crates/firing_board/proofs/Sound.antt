-- What is true of every board.
use Rattle.std.proofs.Common.{◌≡◌, ⊎_elim, ℕ, ◌*◌, ◌<◌, ◌≤◌, Bool, true, false, List, ◌∷◌, Option, Some, None, length, get_or, refl, sym, ap, ◌∙◌, subst, arith}
use Rattle.std.proofs.lemmas.Bool.{cases_lt}
use Rattle.std.proofs.lemmas.List.{get_or_past, length-map}
use Rattle.kernel_gate.specs.Value.{Places}
use Rattle.job_rules.specs.Doing.{Answers}
use Rattle.job_rules.specs.Meant.{rank}
use Rattle.job_rules.specs.Words.{Answer}
use Rattle.nested_jobs.specs.Invariants as kept
use Rattle.nested_jobs.specs.Marks.{Marks}
use Rattle.nested_jobs.specs.Meanings.{Lawful}
use Rattle.nested_jobs.specs.Rules.{Place}
use Rattle.nested_jobs.specs.Tables.{StandsFor}
use Rattle.nested_jobs.proofs.Running.{journal_keeps}
use Rattle.pisdf_meaning.specs.declared.firing.Firing.{Firing}
use Rattle.board_rules.specs.Asking.{JobRow}
use Rattle.board_rules.specs.AskingLaws.{RowsAreFew}
use Rattle.board_rules.specs.Board.{RunsAs}
use Rattle.board_rules.specs.Entries.{BoardState, Step}
use Rattle.board_rules.specs.Keys.{IsKey, Key, rules, top_job}
use Rattle.board_rules.specs.Laws.{JournalsTellSteps}
use Rattle.board_rules.specs.Legal.{state_after}
use Rattle.firing_board.specs.Table.Laws.{KeysAreRows}
use Rattle.firing_board.specs.Table.View.{FiringView, TableView, firing_of, firings_of, job_row, keys_of, lent_in, row_at, table_of}
use Rattle.firing_board.specs.declared.table.row.Row.{Row}
use Rattle.firing_board.specs.Core.{RowsHaveOwners, held_of, lent_of, lent_with}
use Rattle.firing_board.specs.Firings.{AreOpen, OneOwnerOfAll}
use Rattle.firing_board.specs.Invariants.{Keeps, StandsOrStarves, view_with}
use Rattle.firing_board.specs.Runs.{IsSound}
use Rattle.firing_board.specs.Starved.{StillRuns}
use Rattle.firing_board.specs.View.{IsAt}
use Rattle.firing_board.specs.declared.run.Run.{Run}
use Rattle.firing_board.specs.declared.state.Core.{Core}
use Rattle.firing_board.proofs.Fields.{entered_by, legal_by, nothing_held}
use Rattle.firing_board.proofs.Found.{row_behind}
use Rattle.firing_board.proofs.Leaving.{lent_at_worker}
use Rattle.firing_board.proofs.Rows.{firing_in, in_table, row_behind_firing}
use Rattle.firing_board.proofs.Runners.{held_as, inside_of}

-- what a worker runs that has been lent something, by the rows
record HasRun (s : BoardState) (c : Core) (w : ℕ) (places : Places) : Type 0 where
  run : Run
  runs : get_or c.running.items w None ≡ Some run
  row : Row
  here : row_at c.table run.row ≡ Some row
  place_is : s.running w ≡ Some (run.item ∷ row.place)
  lends : lent_in c.table run.row run.item ≡ Some places

-- a run stands in a row, whether memory was wanted or not
run_row : (starved : Bool) (key : Key) (taken : List Step) (c : Core) → StandsOrStarves starved key taken c → (w : ℕ) → w < key.workers → (run : Run) → get_or c.running.items w None ≡ Some run
    → (row : Row) × (row_at c.table run.row ≡ Some row) × ((state_after key taken).running w ≡ Some (run.item ∷ row.place))
run_row false key taken c at w lt run is =
    let runs = subst (λ (h : Option (ℕ × ℕ)). RunsAs (table_of c.table) ((state_after key taken).running w) h) (ap held_as is) (at.kept.runs w lt) in
    let b = row_behind (row_at c.table run.row) runs.0 runs.1 in
    (b.0, b.1, runs.2 ∙ ap (λ (r : JobRow). Some (run.item ∷ r.place)) b.2)
run_row true key taken c at w lt run is =
    let still = subst (λ (h : Option (ℕ × ℕ)). StillRuns key (state_after key taken) c.table ((state_after key taken).running w) h) (ap held_as is) (at.runs w lt) in
    (still.row, still.here, still.place_is)

has_run : (starved : Bool) (key : Key) (taken : List Step) (c : Core) → StandsOrStarves starved key taken c → length c.running.items ≡ key.workers → (w : ℕ) (places : Places) → get_or (lent_of c.table c.running.items) w None ≡ Some places
    → (o : Option Run) → get_or c.running.items w None ≡ o → HasRun (state_after key taken) c w places
has_run starved key taken c at many w places lent None is =
    absurd (let none : get_or (lent_of c.table c.running.items) w None ≡ None = lent_at_worker c.table c.running.items w ∙ ap (lent_with c.table) is in cc)
has_run starved key taken c at many w places lent (Some run) is =
    let r = run_row starved key taken c at w (let inside = inside_of c.running.items w run is in omega arith) run is in
    record {
      run = run;
      runs = is;
      row = r.0;
      here = r.1;
      place_is = r.2;
      lends = sym (lent_at_worker c.table c.running.items w ∙ ap (lent_with c.table) is) ∙ lent;
    }

same_head : (o : Option Place) (i j : ℕ) (p q : Place) → o ≡ Some (i ∷ p) → o ≡ Some (j ∷ q) → (i ≡ j) × (p ≡ q)
same_head o i j p q one two = (cc, cc)

-- no cell has two owners
owners_by : (starved : Bool) (key : Key) (taken : List Step) (c : Core) → StandsOrStarves starved key taken c → length c.running.items ≡ key.workers → RowsHaveOwners c.table → ((w u : ℕ) (a : Place) → (state_after key taken).running w ≡ Some a → (state_after key taken).running u ≡ Some a → w ≡ u)
    → OneOwnerOfAll (state_after key taken) (lent_of c.table c.running.items)
owners_by starved key taken c at many owners by_one = λ w u place a b cell one two.
    let x = has_run starved key taken c at many w one.places one.lent_so (get_or c.running.items w None) refl in
    let y = has_run starved key taken c at many u two.places two.lent_so (get_or c.running.items u None) refl in
    let s = state_after key taken in
    let at_x = same_head (s.running w) one.item x.run.item place x.row.place one.runs x.place_is in
    let at_y = same_head (s.running u) two.item y.run.item place y.row.place two.runs y.place_is in
    let row : x.run.row ≡ y.run.row = owners.apart x.run.row y.run.row x.run.item y.run.item one.places two.places x.row y.row x.lends y.lends x.here y.here (sym at_x.1 ∙ at_y.1) in
    let same = owners.each y.run.row x.run.item y.run.item one.places two.places a b cell (ap (λ (k : ℕ). lent_in c.table k x.run.item) (sym row) ∙ x.lends) y.lends one.has two.has in
    let item : two.item ≡ one.item = at_y.0 ∙ (sym same.0 ∙ sym at_x.0) in
    (by_one w u (one.item ∷ place) one.runs (two.runs ∙ ap (λ (i : ℕ). Some (i ∷ place)) item), same.1)

-- ---- open firings

are_open : (v : TableView) (m : Marks Firing Answer) → StandsFor (table_of v) m → AreOpen (firings_of v) m
are_open v m stands = record {
  is_open = λ k firing here.
      let b = row_behind_firing v k firing here in
      (b.0.job.firing, ap (λ (f : FiringView). m f.place) (sym b.2) ∙ (stands.rows k (job_row b.0) (in_table v k b.0 b.1)).is_open);
  has_key = λ place job is.
      let h = stands.whole place job is in
      let b = row_behind (row_at v h.key) h.row h.here in
      (h.key, firing_of b.0, firing_in v h.key b.0 b.1, ap (λ (r : JobRow). r.place) (sym b.2) ∙ h.place_is);
  one_key = λ k l one other here there same.
      let x = row_behind_firing v k one here in
      let y = row_behind_firing v l other there in
      stands.apart k l (job_row x.0) (job_row y.0) (in_table v k x.0 x.1) (in_table v l y.0 y.1) (ap (λ (f : FiringView). f.place) x.2 ∙ (same ∙ ap (λ (f : FiringView). f.place) (sym y.2)));
}

open_by : (starved : Bool) (key : Key) (taken : List Step) (c : Core) → StandsOrStarves starved key taken c → starved ≡ false → AreOpen (firings_of c.table) (state_after key taken).marks
open_by false key taken c at live = are_open c.table (state_after key taken).marks at.kept.stands
open_by true key taken c at live = absurd (cc)

module _ (tell : JournalsTellSteps) (lawful : (key : Key) → IsKey key → Lawful (rules key) (rank key.graphs.graphs)) (key : Key) (c : Core) (starved : Bool) (keeps : Keeps key c starved) where
  by_one : (w u : ℕ) (a : Place) → (state_after key keeps.taken).running w ≡ Some a → (state_after key keeps.taken).running u ≡ Some a → w ≡ u
  by_one =
      let legal = legal_by starved key keeps.taken c keeps.at in
      let k : kept.Keeps (rules key) (top_job key) key.workers (state_after key keeps.taken) = journal_keeps (rules key) (rank key.graphs.graphs) (lawful key keeps.is_key) (top_job key) key.workers (Answers key.graphs.graphs) keeps.taken legal.allowed in
      k.by_one

  at : IsAt (view_with key c starved) keeps.taken
  at = record { legal = legal_by starved key keeps.taken c keeps.at; entered = entered_by starved key keeps.taken c keeps.at }

  many : length (lent_of c.table c.running.items) ≡ key.workers
  many = length-map c.running.items (lent_with c.table) ∙ keeps.one_each

  pub is_sound : IsSound (view_with key c starved)
  is_sound = record {
    is_key = keeps.is_key;
    one_each = many;
    taken = keeps.taken;
    at = at;
    unlent = λ w none. ⊎_elim
        (λ (lt : w < key.workers). lent_at_worker c.table c.running.items w ∙ ap (lent_with c.table) (nothing_held tell key c starved keeps keeps.taken at w lt none))
        (λ (le : key.workers ≤ w). get_or_past (lent_of c.table c.running.items) w None (let m = many in omega arith))
        (cases_lt w key.workers);
    owners = owners_by starved key keeps.taken c keeps.at keeps.one_each keeps.owners by_one;
    open_so = open_by starved key keeps.taken c keeps.at;
  }

-- unless memory was wanted, few jobs are open
pub few_open : RowsAreFew → KeysAreRows → (key : Key) (c : Core) (starved : Bool) → Keeps key c starved → starved ≡ false → length (keys_of c.table) ≤ 8 * key.workers
few_open few keys key c starved keeps live =
    let at = subst (λ (b : Bool). StandsOrStarves b key keeps.taken c) live keeps.at in
    few key keeps.taken (table_of c.table) (held_of c.running.items) (keys_of c.table) keeps.is_key at.kept (keys c.table)
