-- A compilation comes back, or is left.
use Rattle.std.proofs.Common.{◌≡◌, ◌≢◌, ℕ, ◌<◌, Bool, true, List, set, get_or, Option, Some, None, refl, sym, ap, ◌∙◌, subst}
use Rattle.kernel_gate.specs.Value.{Places}
use Rattle.job_preparing.specs.CompileTasks.{IsEndOf}
use Rattle.job_preparing.specs.Handing.{mark_at}
use Rattle.job_preparing.specs.declared.compiling.CompileEnd.{CompileEnd}
use Rattle.job_rules.specs.Doing.{Answers}
use Rattle.job_rules.specs.Words as words
use Rattle.job_rules.specs.Words.{Answer}
use Rattle.nested_jobs.specs.Marks.{Busy, Done}
use Rattle.nested_jobs.specs.Rules.{Work}
use Rattle.graph_firing.specs.View.{compilation_of, left_by, task}
use Rattle.pisdf_meaning.specs.declared.firing.Configured.{Configured}
use Rattle.pisdf_meaning.specs.declared.firing.Firing.{Firing}
use Rattle.pisdf_model.specs.declared.graph.Graphs.{Graphs}
use Rattle.board_rules.specs.Entries.{BoardState}
use Rattle.board_rules.specs.Keys.{Key}
use Rattle.board_rules.specs.Legal.{state_after}
use Rattle.firing_board.specs.Table.Calls.{MarksItem}
use Rattle.firing_board.specs.Table.View.{TableView, lent_in, row_at}
use Rattle.firing_board.specs.declared.table.row.Row.{Row}
use Rattle.firing_board.specs.Core.{lent_of, lent_with}
use Rattle.firing_board.specs.Finishes.{MayEnd}
use Rattle.firing_board.specs.Invariants.{Keeps}
use Rattle.firing_board.specs.OnCore.{FinishesOn}
use Rattle.firing_board.specs.Returning.{Compiles, HasFinish, MayCompile, RunsItem}
use Rattle.firing_board.specs.Runs.{RunsWork}
use Rattle.firing_board.specs.declared.state.Core.{Core}
use Rattle.firing_board.specs.declared.run.Run.{Run}
use Rattle.firing_board.proofs.Compilations.{compiles_at}
use Rattle.firing_board.proofs.Framed.{FinishLaws, IsBack, LastsAs}
use Rattle.firing_board.proofs.Leaving.{Mine, finishes_by, keeps_by, lent_at_worker, mine, starves_next}
use Rattle.firing_board.proofs.Rows.{firings_go_on, last_go_on, rows_same, stays_same, the_same}

-- what a compilation is that may end so
pub record IsCompilation (key : Key) (end : CompileEnd) (work : words.Work) : Type 0 where
  pub firing : Firing
  pub left : List Configured
  pub work_is : work ≡ words.Compiles firing left
  pub ends : IsEndOf key.graphs.graphs key.workers firing left end
  pub answer : Answer
  pub answered : Answers key.graphs.graphs work answer

pub compilation : (key : Key) (end : CompileEnd) (work : words.Work) → MayEnd key end work → IsCompilation key end work
compilation key end (words.Fires spot asked) m = absurd m
compilation key end (words.Copies node read lens) m = absurd m
compilation key end (words.Compiles firing left) m = record { firing = firing; left = left; work_is = refl; ends = m.0; answer = m.1.0; answered = m.1.1 }

module _ (key : Key) (s : BoardState) (old : Core) (w : ℕ) (work : words.Work) (a : Mine key s old w work) where
  -- the worker has no frame
  pub unlent : get_or (lent_of old.table old.running.items) w None ≡ None → lent_in old.table a.run.row a.run.item ≡ None
  unlent lent = sym (ap (lent_with old.table) a.runs) ∙ (sym (lent_at_worker old.table old.running.items w) ∙ lent)

  module _ (end : CompileEnd) (i : IsCompilation key end work) where
    does : task a.row.job a.run.item ≡ Some (Work (words.Compiles i.firing i.left))
    does = a.task_is ∙ ap (λ (x : words.Work). Some (Work x)) i.work_is

    pub item_is : a.run.item ≡ compilation_of a.row.job
    item_is = (compiles_at a.row.job a.run.item i.firing i.left does).0

    firing_is : i.firing ≡ a.row.job.firing
    firing_is = sym (compiles_at a.row.job a.run.item i.firing i.left does).1

    left_is : i.left ≡ left_by a.row.job
    left_is = sym (compiles_at a.row.job a.run.item i.firing i.left does).2

    pub may_come : RunsItem (MayCompile end) old w
    may_come = record {
      run = a.run;
      runs = a.runs;
      row = a.row;
      here = a.here;
      so = record {
        is_compilation = item_is;
        busy = a.busy;
        ends = subst (λ l. IsEndOf a.row.job.graphs.graphs a.row.job.workers a.row.job.firing l end) left_is
            (subst (λ f. IsEndOf a.row.job.graphs.graphs a.row.job.workers f i.left end) firing_is
            (subst (λ (n : ℕ). IsEndOf a.row.job.graphs.graphs n i.firing i.left end) (sym a.workers_are)
            (subst (λ (g : Graphs). IsEndOf g.graphs key.workers i.firing i.left end) (sym a.graphs_are) i.ends)));
      };
    }

    pub record ComesBack (mid : Core) (k : ℕ) : Type 0 where
      pub answer : Answer
      pub answered : Answers key.graphs.graphs work answer
      pub back : IsBack key s old w work a answer mid k

    pub comes_back : (mid : Core) (k : ℕ) → lent_in old.table a.run.row a.run.item ≡ None → Compiles end old w mid k → ComesBack mid k
    comes_back mid k none r =
        let run : r.run ≡ a.run = the_same (get_or old.running.items w None) r.run a.run r.leaves.ran a.runs in
        let row : r.row ≡ a.row = the_same (row_at old.table a.run.row) r.row a.row (ap (λ (x : Run). row_at old.table x.row) (sym run) ∙ r.here) a.here in
        let item : compilation_of r.row.job ≡ a.run.item = ap (λ (x : Row). compilation_of x.job) row ∙ sym item_is in
        let f = r.finishes in
        record {
          answer = f.answer;
          answered = subst (λ (x : words.Work). Answers key.graphs.graphs x f.answer) (sym i.work_is)
              (subst (λ l. Answers key.graphs.graphs (words.Compiles i.firing l) f.answer) (sym left_is)
              (subst (λ x. Answers key.graphs.graphs (words.Compiles x (left_by a.row.job)) f.answer) (sym firing_is)
              (subst (λ (g : Graphs). Answers g.graphs (words.Compiles a.row.job.firing (left_by a.row.job)) f.answer) a.graphs_are
              (subst (λ (x : Row). Answers x.job.graphs.graphs (words.Compiles x.job.firing (left_by x.job)) f.answer) row f.answered))));
          back = record {
            row_is = r.row_is ∙ ap (λ (x : Run). x.row) run;
            marks = subst (λ (n : ℕ). MarksItem a.run.row n (Done f.answer) old.table mid.table) item (subst (λ (x : Run). MarksItem x.row (compilation_of r.row.job) (Done f.answer) old.table mid.table) run f.marks);
            lends = record { here = r.lends a.run.row a.run.item ∙ none; in_job = λ n other. r.lends a.run.row n; others = λ j n other. r.lends j n };
          };
        }

-- a compilation is left, and its job stays as it is
module _ (key : Key) (laws : FinishLaws key) (old : Core) (starved : Bool) (keeps : Keeps key old starved) (w : ℕ) (lt : w < key.workers) (work : words.Work) (runs : RunsWork key (state_after key keeps.taken) w work) (answer : Answer)
    (ok : Answers key.graphs.graphs work answer) (new : Core) (table_is : new.table ≡ old.table) (running_are : new.running.items ≡ set old.running.items w None) (journal_is : HasFinish old.journal w new.journal) where
  abbrev a : Mine key (state_after key keeps.taken) old w work
  a = mine laws.held key laws.lawful starved old keeps w lt work runs

  lasts : (v : ℕ) (r : Run) → v ≢ w → v < key.workers → get_or old.running.items v None ≡ Some r → (before : Row) → row_at old.table r.row ≡ Some before → mark_at before.job.marks r.item ≡ Busy → LastsAs before r.item new.table r.row
  lasts v r other v_lt is before here busy = (before, ap (λ (t : TableView). row_at t r.row) table_is ∙ here, stays_same before, busy, λ i x was. was)

  module _ (none : lent_in old.table a.run.row a.run.item ≡ None) where
    only : (k i : ℕ) (places : Places) → lent_in new.table k i ≡ Some places → (lent_in old.table k i ≡ Some places) × ((k ≡ a.run.row) × (i ≡ a.run.item) → ⊥)
    only k i places is =
        let was : lent_in old.table k i ≡ Some places = sym (ap (λ (t : TableView). lent_in t k i) table_is) ∙ is in
        (was, λ p. absurd (not_some (lent_in old.table k i) places (ap (λ (x : ℕ). lent_in old.table x i) p.0 ∙ (ap (lent_in old.table a.run.row) p.1 ∙ none)) was))
      where
        not_some : (o : Option Places) (places : Places) → o ≡ None → o ≡ Some places → ⊥
        not_some o places one two = cc

    pub abandons : FinishesOn key old starved w new true
    abandons =
        let lends = λ (v : ℕ) (r : Run) (other : v ≢ w) (is : get_or old.running.items v None ≡ Some r). ap (λ (t : TableView). lent_in t r.row r.item) table_is in
        record {
          finishes = finishes_by laws.held key laws.lawful starved old keeps w lt work a answer ok runs new running_are journal_is lasts lends only laws.entered laws.one laws.tell true;
          firings = firings_go_on old.table new.table (last_go_on old.table new.table (rows_same old.table new.table table_is));
          keeps = keeps_by laws.held key laws.lawful starved old keeps w lt work a answer ok runs new running_are journal_is lasts lends only true (last_go_on old.table new.table (rows_same old.table new.table table_is))
              (starves_next laws.held key laws.lawful starved old keeps w lt work a answer ok runs new running_are journal_is lasts lends only laws.entered);
          stays = λ e. refl;
        }
