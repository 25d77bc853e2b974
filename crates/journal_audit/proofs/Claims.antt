-- A worker claims the item that is picked for it.
use Rattle.std.proofs.Common.{◌≡◌, ◌≢◌, ℕ, ◌<◌, Bool, true, false, List, [], ◌∷◌, ◌++◌, length, get_or, set, length-set, Option, Some, None, refl, sym, ap, ◌∙◌, subst, arith}
use Rattle.std.proofs.lemmas.List.{append_cancel_left}
use Rattle.job_rules.specs.Items.{graph_of}
use Rattle.job_rules.specs.Meant.{rank}
use Rattle.nested_jobs.proofs.Nesting.{journal_nested, top_open}
use Rattle.nested_jobs.specs.Journals as steps
use Rattle.nested_jobs.specs.Marks.{Busy}
use Rattle.nested_jobs.specs.Rules.{Place}
use Rattle.nested_jobs.specs.Steps.{IsEnabled}
use Rattle.nested_jobs.specs.Tables.{put_row, with_mark}
use Rattle.pisdf_model.specs.declared.graph.Graphs.{Graphs}
use Rattle.board_rules.specs.Asking.{JobRow}
use Rattle.board_rules.specs.Board.{Held, KeptAs, OpenJobs, hold}
use Rattle.board_rules.specs.BoardLaws.{ClaimsAreEntered, ClaimsKeep}
use Rattle.board_rules.specs.Entries.{Step, item_of}
use Rattle.board_rules.specs.Keys.{IsKey, Key, rules, top_job}
use Rattle.board_rules.specs.Legal.{AreLegal, journal_of, state_after}
use Rattle.board_rules.specs.declared.entry.Entry.{Entry}
use Rattle.board_rules.specs.declared.entry.Entry.TheVariants.{Claim}
use Rattle.quiescent_driver.specs.Journals.{entry_line}
use Rattle.journal_laws.specs.Steps.{NextStepsAreOne}
use Rattle.journal_laws.proofs.Longer.{legal_last}
use Rattle.journal_audit.specs.Opening.{IsFound}
use Rattle.journal_audit.specs.Replays.{Enters, HasEnd, Makes, Replays}
use Rattle.journal_audit.specs.Slots.{InSlot, IsMarkedSlot, MarksSlot}
use Rattle.journal_audit.specs.Standing.{IsOpenAt}
use Rattle.journal_audit.specs.Stepping.{ClaimLineIs, ClaimsTo, TakesClaim}
use Rattle.journal_audit.specs.Table.{held_as, held_of, job_row, row_at, table_of}
use Rattle.journal_audit.specs.declared.replay.Replay.{Replay}
use Rattle.journal_audit.specs.declared.table.Row.{Row}
use Rattle.journal_audit.specs.declared.table.Run.{Run}
use Rattle.journal_audit.proofs.LastSteps.{AllLawful}
use Rattle.journal_audit.proofs.Rows.{held_set, in_table, inside_of, jobs_set, row_marked, table_set}

pub last_one : (xs : List Entry) (a b : Entry) → xs ++ a ∷ [] ≡ xs ++ b ∷ [] → a ≡ b
last_one xs a b e = let t = append_cancel_left xs (a ∷ []) (b ∷ []) e in cc

-- nothing may be claimed
pub none_claimed : (key : Key) (taken : List Step) (w : ℕ) → ((a : Place) → ¬ (IsEnabled (rules key) (state_after key taken).marks a)) → (place : Place) → ¬ (AreLegal key (taken ++ steps.Claim w place ∷ []))
none_claimed key taken w none place legal = none place (legal_last key taken (steps.Claim w place) legal).enabled

module _ (law : AllLawful) (keep : ClaimsKeep) (enter : ClaimsAreEntered) (once : NextStepsAreOne) (graphs : Graphs) (key : Key) (taken : List Step) (old : Replay) (r : Replays graphs key taken old) (w : ℕ) (lt : w < length old.running.items) (idle : get_or old.running.items w None ≡ None)
    (half : Replay) (running_same : half.running ≡ old.running) (workers_same : half.workers ≡ old.workers) (run : Run) (f : IsFound graphs key taken old.rows.items w half.rows.items run) where
  abbrev mid : List (Option Row)
  mid = half.rows.items

  abbrev place : Place
  place = run.item ∷ f.row.place

  abbrev step : Step
  step = steps.Claim w place

  abbrev next : List Step
  next = taken ++ step ∷ []

  abbrev pub entry : Entry
  entry = Claim w f.row.job.firing.path (item_of (graph_of key.graphs.graphs f.row.job.firing) run.item)

  abbrev held : Held
  held = held_of old.running.items

  abbrev is : IsKey key
  is = r.keeps.is_key

  worker : w < key.workers
  worker = let e = r.one_each in omega arith

  here : table_of mid run.row ≡ Some (job_row f.row)
  here = in_table mid run.row f.row f.here

  kept : KeptAs key next (put_row (table_of mid) run.row (Some (with_mark (job_row f.row) run.item Busy))) (hold held w (Some (run.row, run.item)))
  kept = keep key taken (table_of old.rows.items) held w run.row run.item (job_row f.row) f.work (table_of mid) f.marks is r.keeps.kept worker (ap held_as idle) f.picked f.opened here f.free f.task_is

  entered : journal_of key next ≡ journal_of key taken ++ entry ∷ []
  entered = enter key taken (table_of old.rows.items) w run.row run.item (job_row f.row) (table_of mid) f.marks is f.opened here

  -- it can make no other claim
  pub only : (line : List ℕ) (n : ℕ) → line ≢ entry_line n entry → (p : Place) (other : Entry) → AreLegal key (taken ++ steps.Claim w p ∷ []) → journal_of key (taken ++ steps.Claim w p ∷ []) ≡ journal_of key taken ++ other ∷ [] → line ≢ entry_line n other
  only line n differs p other legal told e =
      let same : ◌≡◌ {A = Step} (steps.Claim w p) step = once key taken (steps.Claim w p) step is legal kept.legal refl in
      let journals : journal_of key taken ++ other ∷ [] ≡ journal_of key taken ++ entry ∷ [] = sym told ∙ (ap (λ (s : Step). journal_of key (taken ++ s ∷ [])) same ∙ entered) in
      differs (e ∙ ap (entry_line n) (last_one (journal_of key taken) other entry journals))

  module _ (new : Replay) (e : Enters half w run new) (unended : half.end ≡ None) where
    marked : IsMarkedSlot run.item Busy f.row e.slot
    marked = subst (λ (o : Option Row). MarksSlot run.item Busy o e.slot) f.here e.marks

    rows_are : new.rows.items ≡ set mid run.row (Some marked.after)
    rows_are = e.rows_are ∙ ap (set mid run.row) marked.is

    inside : run.row < length mid
    inside = inside_of mid run.row f.row f.here

    table_is : table_of new.rows.items ≡ put_row (table_of mid) run.row (Some (with_mark (job_row f.row) run.item Busy))
    table_is =
        let row = row_marked f.row marked.after run.item Busy marked.marks in
        ap table_of rows_are ∙ (table_set mid run.row (Some marked.after) inside ∙ ap (λ (x : JobRow). put_row (table_of mid) run.row (Some x)) row)

    held_is : held_of new.running.items ≡ hold held w (Some (run.row, run.item))
    held_is = ap held_of (e.running_are ∙ ap (λ rs. set rs.items w (Some run)) running_same) ∙ held_set old.running.items w (Some run) lt

    kept_new : KeptAs key next (table_of new.rows.items) (held_of new.running.items)
    kept_new = subst (λ (h : Held). KeptAs key next (table_of new.rows.items) h) (sym held_is) (subst (λ (t : OpenJobs). KeptAs key next t (hold held w (Some (run.row, run.item)))) (sym table_is) kept)

    now : row_at new.rows.items run.row ≡ Some marked.after
    now = ap (λ (rs : List (Option Row)). row_at rs run.row) rows_are ∙ Rattle.std.proofs.lemmas.List.get_or-set_same mid run.row (Some marked.after) None inside

    top : IsOpenAt (state_after key next).marks []
    top =
        let lawful = law key.graphs is.valid.valid in
        let nested = journal_nested (rules key) (rank key.graphs.graphs) lawful (top_job key) next in
        top_open (rules key) (rank key.graphs.graphs) lawful (top_job key) (state_after key next).marks marked.after.place marked.after.job.firing nested (kept_new.stands.rows run.row (job_row marked.after) (in_table new.rows.items run.row marked.after now)).is_open

    pub makes : (n : ℕ) (line : List ℕ) → line ≡ entry_line n entry → Makes graphs key n taken line new
    makes n line is_line = record {
      step = step;
      entry = entry;
      entered = entered;
      line_is = is_line;
      replays = record {
        keeps = record {
          is_key = is;
          graphs_are = r.keeps.graphs_are;
          kept = kept_new;
          jobs = subst (λ (rs : List (Option Row)). Rattle.journal_audit.specs.Standing.AllJobs key rs) (sym rows_are)
              (jobs_set key mid run.row marked.after inside f.so.jobs (marked.marks.marks.is_job key.graphs.graphs key.workers (f.so.jobs run.row f.row f.here)));
        };
        workers_are = e.workers_are ∙ (workers_same ∙ r.workers_are);
        one_each = ap (λ (l : List (Option Run)). length l) (e.running_are ∙ ap (λ rs. set rs.items w (Some run)) running_same) ∙ (length-set old.running.items w (Some run) ∙ r.one_each);
        end_is = subst (HasEnd (state_after key next).marks) (sym (e.end_is ∙ unended)) top;
      };
    }

  -- whichever it is
  pub claims_to : (n : ℕ) (line : List ℕ) (new : Replay) (took : Bool) → half.end ≡ None → TakesClaim half n w run line new took → ClaimsTo graphs key n taken w line took new
  claims_to n line new true unended (told, e) =
      let here = subst (InSlot (ClaimLineIs n w run.item line)) f.here told in
      makes new e unended n line (here key.graphs.graphs key.workers (f.so.jobs run.row f.row f.here))
  claims_to n line new false unended told =
      let here = subst (InSlot (λ (row : Row). (right : List ℕ) × ClaimLineIs n w run.item right row × (line ≢ right))) f.here told in
      only line n (λ e. here.2 (e ∙ sym (here.1 key.graphs.graphs key.workers (f.so.jobs run.row f.row f.here))))
