-- The item that is picked for a worker, and how its job is opened.
use Rattle.std.proofs.Common.{◌≡◌, inl, inr, ℕ, true, false, List, ◌∷◌, ◌++◌, Option, Some, None, refl, sym, ap, ◌∙◌, subst}
use Rattle.std.specs.Option.{option_map}
use Rattle.job_rules.specs.Items.{rule}
use Rattle.job_rules.specs.Meant.{rank}
use Rattle.job_rules.specs.Words as words
use Rattle.nested_jobs.specs.Meanings.{Lawful}
use Rattle.nested_jobs.specs.Rules.{Call, Place, Task, Work}
use Rattle.graph_firing.specs.View.{IsOfferedCall, IsOfferedWork, answered, task}
use Rattle.pisdf_meaning.specs.declared.firing.Firing.{Firing}
use Rattle.pisdf_model.specs.declared.graph.Graphs.{Graphs}
use Rattle.board_rules.specs.Asking.{IsOffered, JobRow, NoRowOffers}
use Rattle.board_rules.specs.AskingLaws.{FirstWorkIsPicked, NothingIsEnabled, OpenedWorkIsPicked, PathsAreApart}
use Rattle.board_rules.specs.BoardLaws.{NothingOpened}
use Rattle.board_rules.specs.Entries.{Step}
use Rattle.board_rules.specs.Keys.{Key, rules}
use Rattle.board_rules.specs.Laws.{PicksExist}
use Rattle.board_rules.specs.Legal.{state_after}
use Rattle.board_rules.specs.Offers.{calls}
use Rattle.board_rules.specs.Picks.{IsPick, is_open}
use Rattle.firing_board.specs.Table.Asked.{IsAsked, PathsDiffer, offer_of}
use Rattle.firing_board.specs.Table.Laws.{CallsAreFit}
use Rattle.firing_board.specs.Table.View.{TableView, job_row, row_at, table_of}
use Rattle.firing_board.specs.declared.table.pick.Asked.{Asked}
use Rattle.firing_board.specs.declared.table.row.Row.{Row}
use Rattle.firing_board.specs.Core.{StandsAt, held_of}
use Rattle.firing_board.specs.Finding.{IsFound}
use Rattle.firing_board.specs.Opening.{Calls, OpensWay}
use Rattle.firing_board.specs.Wanting.{PicksInNew}
use Rattle.firing_board.specs.declared.state.Core.{Core}
use Rattle.firing_board.specs.declared.run.Run.{Run}
use Rattle.firing_board.proofs.Below.{enabled_in, free_below, not_open, ready_by, tail_of}
use Rattle.firing_board.proofs.Openings.{task_by}
use Rattle.firing_board.proofs.Rows.{the_same}

-- the row of the table that boards see so
pub row_behind : (o : Option Row) (row : JobRow) → option_map job_row o ≡ Some row → (r : Row) × (o ≡ Some r) × (row ≡ job_row r)
row_behind None row is = absurd (cc)
row_behind (Some r) row is = (r, refl, let same : Some row ≡ Some (job_row r) = sym is in cc)

call_of : (t : Task Firing words.Work) → calls t ≡ true → (d : Firing) × (t ≡ Call d)
call_of (Work work) is = absurd (cc)
call_of (Call d) is = (d, refl)

work_of : (t : Task Firing words.Work) → calls t ≡ false → (w : words.Work) × (t ≡ Work w)
work_of (Work work) is = (work, refl)
work_of (Call d) is = absurd (cc)

-- a task by the graphs of the job
pub task_in : (key : Key) (v : TableView) (row : Row) (item : ℕ) (t : Option (Task Firing words.Work)) → row.job.graphs ≡ key.graphs
    → rule key.graphs.graphs row.job.firing (answered row.job) item ≡ t → task row.job item ≡ t
task_in key v row item t graphs is = subst (λ (g : Graphs). rule g.graphs row.job.firing (answered row.job) item ≡ t) (sym graphs) is

module _ (paths_apart : PathsAreApart) (key : Key) (taken : List Step) (old : Core) (s : StandsAt key taken old) where
  differ : PathsDiffer key (state_after key taken).marks
  differ p q c d one two same = paths_apart key taken p q c d s.suits.is_key s.kept.legal one two same

  offered_call : (jr : JobRow) (row : Row) (k item : ℕ) → row_at old.table k ≡ Some row → jr ≡ job_row row → IsOffered key true jr item → IsOfferedCall row.job item
  offered_call jr row k item here is offered =
      let o = subst (λ (r : JobRow). IsOffered key true r item) is offered in
      let d = call_of o.task o.kind in
      record {
        free = o.free;
        job = d.0;
        task_is = task_in key old.table row item (Some (Call d.0)) (s.suits.rows k row here).graphs_are (o.has_task ∙ ap (λ (t : Task Firing words.Work). Some t) d.1);
      }

  offered_work : (jr : JobRow) (row : Row) (k item : ℕ) → row_at old.table k ≡ Some row → jr ≡ job_row row → IsOffered key false jr item → IsOfferedWork row.job item
  offered_work jr row k item here is offered =
      let o = subst (λ (r : JobRow). IsOffered key false r item) is offered in
      let w = work_of o.task o.kind in
      record {
        free = o.free;
        work = w.0;
        task_is = task_in key old.table row item (Some (Work w.0)) (s.suits.rows k row here).graphs_are (o.has_task ∙ ap (λ (t : Task Firing words.Work). Some t) w.1);
      }

  -- the first call may be opened
  pub first_calls : CallsAreFit → (w : ℕ) (asked : Asked) → IsAsked w true old.table (Some asked) → Calls key (state_after key taken).marks old.table record { row = asked.row; item = asked.offer.item }
  first_calls fit w asked is =
      let f = is key (state_after key taken).marks s.suits differ in
      let b = row_behind (row_at old.table asked.row) f.0 f.1.here in
      record {
        suits = s.suits;
        row = b.0;
        here = b.1;
        offered = offered_call f.0 b.0 asked.row asked.offer.item b.1 b.2 f.1.first.offered;
        fit = λ firing t. fit key taken (table_of old.table) (held_of old.running.items) asked.row asked.offer.item (job_row b.0) firing s.suits.is_key s.kept (ap (option_map job_row) b.1)
            (task_by key (state_after key taken).marks old.table asked.row asked.offer.item b.0 (Some (Call firing)) s.suits b.1 t);
      }

  -- the first work is picked
  pub work_found : NothingOpened → FirstWorkIsPicked → (w : ℕ) (asked : Asked) → IsAsked w false old.table (Some asked) → IsFound key taken old w old record { row = asked.row; item = asked.offer.item }
  work_found nothing picked w asked is =
      let m = (state_after key taken).marks in
      let f = is key m s.suits differ in
      let b = row_behind (row_at old.table asked.row) f.0 f.1.here in
      let place : f.0.place ≡ b.0.place = ap (λ (r : JobRow). r.place) b.2 in
      record {
        marks = m;
        suits = s.suits;
        row = b.0;
        here = b.1;
        offered = offered_work f.0 b.0 asked.row asked.offer.item b.1 b.2 f.1.first.offered;
        opened = nothing key taken (table_of old.table) (held_of old.running.items) (asked.offer.item ∷ b.0.place) s.suits.is_key s.kept;
        picked = subst (λ (p : Place). IsPick key m w asked.offer.item p) place (picked key taken (table_of old.table) (held_of old.running.items) w asked.row f.0 (offer_of asked.offer) s.suits.is_key s.kept f.1);
        numbered = s.numbered;
        opens = inl refl;
      }

  -- the work that the first call leads to is picked
  pub call_found : CallsAreFit → NothingOpened → OpenedWorkIsPicked → NoRowOffers key false (table_of old.table) → (w : ℕ) (asked : Asked) → IsAsked w true old.table (Some asked)
      → (new : Core) (run : Run) → OpensWay old record { row = asked.row; item = asked.offer.item } new run → IsFound key taken old w new run
  call_found fit nothing picked none w asked is new run way =
      let m = (state_after key taken).marks in
      let held = held_of old.running.items in
      let table = table_of old.table in
      let f = is key m s.suits differ in
      let c = first_calls fit w asked is in
      let r = way.reaches key m c in
      let b = row_behind (row_at old.table asked.row) f.0 f.1.here in
      let same : c.row.place ≡ f.0.place = ap (λ (x : JobRow). x.place) (the_same (table asked.row) (job_row c.row) f.0 (ap (option_map job_row) c.here) f.1.here) in
      let opened = r.opened table m (λ j ys. nothing key taken table held (j ∷ ys ++ asked.offer.item ∷ c.row.place) s.suits.is_key s.kept) in
      record {
        marks = r.marks;
        suits = r.suits;
        row = r.row;
        here = r.here;
        offered = record { free = r.free; work = r.work; task_is = r.task_is };
        opened = opened;
        picked = picked key taken table held w asked.row run.row run.item r.first r.way f.0 (job_row r.row) (offer_of asked.offer) r.work (table_of new.table) r.marks s.suits.is_key s.kept none f.1 r.are_first
            (r.place_is ∙ ap (λ (p : Place). r.first ∷ r.way ++ asked.offer.item ∷ p) same)
            opened (ap (option_map job_row) r.here) r.free
            (task_by key r.marks new.table run.row run.item r.row (Some (Work r.work)) r.suits r.here r.task_is);
        numbered = way.numbered s.numbered;
        opens = inr (
            let at : r.row.place ≡ r.way ++ asked.offer.item ∷ c.row.place = ap tail_of r.place_is in
            let free = (s.suits.stands.rows asked.row (job_row c.row) (ap (option_map job_row) c.here)).items asked.offer.item ∙ c.offered.free in
            ap is_open (ap m at ∙ free_below key m s.suits.nested r.way (asked.offer.item ∷ c.row.place) free));
      }

  -- its claim opens a job
  pub call_wants : PicksExist → Lawful (rules key) (rank key.graphs.graphs) → NoRowOffers key false (table_of old.table) → (w : ℕ) (asked : Asked) → IsAsked w true old.table (Some asked) → PicksInNew key (state_after key taken) w
  call_wants exist lawful none w asked is =
      let m = (state_after key taken).marks in
      let table = table_of old.table in
      let f = is key m s.suits differ in
      let o = f.1.first.offered in
      let ready = ready_by key lawful m s.suits.nested table s.suits.stands asked.row f.0 asked.offer.item o.task f.1.here o.free o.has_task in
      let e = enabled_in key lawful m s.suits.nested table s.suits.stands asked.offer.item f.0.place ready in
      let p = exist key taken w (e.0 ++ asked.offer.item ∷ f.0.place) s.suits.is_key s.kept.legal e.1 in
      record { item = p.0; place = p.1; picked = p.2; opens = not_open key lawful m s.suits.nested table s.suits.stands none p.0 p.1 p.2.enabled }

  pub none_found : NothingIsEnabled → NoRowOffers key false (table_of old.table) → (w : ℕ) → IsAsked w true old.table None → (a : Place) → ¬ (Rattle.nested_jobs.specs.Steps.IsEnabled (rules key) (state_after key taken).marks a)
  none_found nothing none w is a = nothing key taken (table_of old.table) (held_of old.running.items) a s.suits.is_key s.kept none (is key (state_after key taken).marks s.suits differ)

  -- no row offers work
  pub no_work : (w : ℕ) → IsAsked w false old.table None → NoRowOffers key false (table_of old.table)
  no_work w is = is key (state_after key taken).marks s.suits differ
