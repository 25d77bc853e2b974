-- What is kept of a board when memory is wanted.
use Rattle.std.proofs.Common.{◌≡◌, ℕ, ◌<◌, ◌≤◌, true, false, List, ◌∷◌, length, Option, Some, None, sym, ap, ap₂, ◌∙◌, subst, arith}
use Rattle.kernel_gate.specs.Value.{Places}
use Rattle.job_preparing.specs.Handing.{mark_at}
use Rattle.job_rules.specs.Items.{rule}
use Rattle.job_rules.specs.Meant.{rank}
use Rattle.nested_jobs.specs.Journals.{task_of}
use Rattle.nested_jobs.specs.Marks.{Busy}
use Rattle.nested_jobs.specs.Meanings.{Lawful}
use Rattle.nested_jobs.specs.Rules.{Place, Work}
use Rattle.graph_firing.specs.View.{answered}
use Rattle.board_rules.specs.Asking.{JobRow}
use Rattle.board_rules.specs.Board.{RunsAs}
use Rattle.board_rules.specs.BoardLaws.{HeldAreBusy}
use Rattle.board_rules.specs.Entries.{Step}
use Rattle.board_rules.specs.Keys.{Key, rules}
use Rattle.board_rules.specs.Legal.{state_after}
use Rattle.board_rules.specs.declared.entry.Entry.{Entry}
use Rattle.firing_board.specs.Table.Calls.{LendsAsBefore}
use Rattle.firing_board.specs.Table.View.{TableView, firings_of, row_at, table_of}
use Rattle.firing_board.specs.Core.{RowsLast, StandsAt, held_of, lent_of, runners}
use Rattle.firing_board.specs.Invariants.{Keeps}
use Rattle.firing_board.specs.OnCore.{StarvesOn}
use Rattle.firing_board.specs.Starved.{Lasts, StillRuns}
use Rattle.firing_board.specs.declared.state.Core.{Core}
use Rattle.firing_board.specs.declared.run.Run.{Run}
use Rattle.firing_board.proofs.Claimed.{task_stands}
use Rattle.firing_board.proofs.Found.{row_behind, task_in}
use Rattle.firing_board.proofs.Rows.{firings_go_on, last_go_on, owners_stay}
use Rattle.firing_board.proofs.Runners.{lent_stays}

module _ (held_busy : HeldAreBusy) (key : Key) (lawful : Lawful (rules key) (rank key.graphs.graphs)) where
  -- what a worker runs can still be finished where rows last
  pub still_runs : (taken : List Step) (old : Core) (s : StandsAt key taken old) (table : TableView) → Lasts old.table table → (v : ℕ) → v < key.workers → (h : Option (ℕ × ℕ)) → held_of old.running.items v ≡ h
      → StillRuns key (state_after key taken) table ((state_after key taken).running v) h
  still_runs taken old s table lasts v lt None is = subst (λ (h : Option (ℕ × ℕ)). RunsAs (table_of old.table) ((state_after key taken).running v) h) is (s.kept.runs v lt)
  still_runs taken old s table lasts v lt (Some h) is =
      let runs = subst (λ (x : Option (ℕ × ℕ)). RunsAs (table_of old.table) ((state_after key taken).running v) x) is (s.kept.runs v lt) in
      let b = row_behind (row_at old.table h.0) runs.0 runs.1 in
      let busy = held_busy key taken (table_of old.table) (held_of old.running.items) v h.0 h.1 runs.0 s.suits.is_key s.kept lt is runs.1 in
      let was : mark_at b.0.job.marks h.1 ≡ Busy = subst (λ (x : JobRow). x.marks h.1 ≡ Busy) b.2 busy.busy in
      let last = lasts.rows h.0 h.1 b.0 b.1 was in
      let graphs = (s.suits.rows h.0 b.0 b.1).graphs_are in
      let workers = (s.suits.rows h.0 b.0 b.1).workers_are in
      let has : rule key.graphs.graphs b.0.job.firing (answered b.0.job) h.1 ≡ Some (Work busy.work) = subst (λ (x : JobRow). rule key.graphs.graphs x.job (Rattle.nested_jobs.specs.Tables.answers_in x) h.1 ≡ Some (Work busy.work)) b.2 busy.task in
      let grown : rule key.graphs.graphs b.0.job.firing (answered last.0.job) h.1 ≡ Some (Work busy.work) = lawful.grows b.0.job.firing (answered b.0.job) (answered last.0.job) last.2.answered h.1 (Work busy.work) has in
      let moved : rule key.graphs.graphs last.0.job.firing (answered last.0.job) h.1 ≡ Some (Work busy.work) = subst (λ f. rule key.graphs.graphs f (answered last.0.job) h.1 ≡ Some (Work busy.work)) (sym last.2.stays.firing_is) grown in
      let there = task_stands key (state_after key taken).marks (table_of old.table) h.0 h.1 runs.0 (Some (Work busy.work)) s.kept.stands runs.1 busy.task in
      let place_was : runs.0.place ≡ last.0.place = ap (λ (x : JobRow). x.place) b.2 ∙ sym last.2.stays.place_is in
      record {
        row = last.0;
        here = last.1;
        graphs_are = last.2.stays.graphs_are ∙ graphs;
        workers_are = last.2.stays.workers_are ∙ workers;
        busy = last.2.busy h.1 was;
        work = busy.work;
        task_is = task_in key table last.0 h.1 (Some (Work busy.work)) (last.2.stays.graphs_are ∙ graphs) moved;
        place_is = runs.2 ∙ ap (λ (p : Place). Some (h.1 ∷ p)) place_was;
        same = subst (λ (p : Place). task_of (rules key) (state_after key taken).marks (h.1 ∷ p) ≡ Some (Work busy.work)) place_was there;
      }

  pub starves : (old new : Core) → Keeps key old false → Lasts old.table new.table → RowsLast old.table new.table → LendsAsBefore old.table new.table → new.running.items ≡ old.running.items → new.journal.entries ≡ old.journal.entries
      → old.journal.room ≤ new.journal.room → StarvesOn key old new
  starves old new keeps lasts rows lends running entries room =
      let lent : lent_of new.table new.running.items ≡ lent_of old.table old.running.items =
      ap (lent_of new.table) running ∙ lent_stays old.table new.table old.running.items (λ v run is. lends run.row run.item) in
      record {
        starves = ap₂ (λ (es : List Entry) (l : List (Option Places)). record { key = key; journal = es; starved = true; firings = firings_of new.table; lent = l; kept = false }) entries lent;
        firings = firings_go_on old.table new.table (last_go_on old.table new.table rows);
        keeps = record {
          is_key = keeps.is_key;
          one_each = ap (λ (rs : List (Option Run)). length rs) running ∙ keeps.one_each;
          lent = λ k i places is. let v = keeps.lent k i places (sym (lends k i) ∙ is) in (v.0, ap (λ (rs : List (Option Run)). held_of rs v.0) running ∙ v.1);
          owners = owners_stay old.table new.table keeps.owners (last_go_on old.table new.table rows) (λ k i p is. sym (lends k i) ∙ is);
          room = let same : runners new.running.items ≡ runners old.running.items = ap runners running in let was = keeps.room in omega arith;
          taken = keeps.taken;
          at = record {
            legal = keeps.at.kept.legal;
            entered = entries ∙ keeps.at.entered;
            runs = λ v lt. still_runs keeps.taken old keeps.at new.table lasts v lt (held_of new.running.items v) (sym (ap (λ (rs : List (Option Run)). held_of rs v) running));
          };
        };
      }
