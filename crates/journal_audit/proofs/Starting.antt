-- A board in which nothing is claimed.
use Rattle.std.proofs.Common.{◌≡◌, ◌≢◌, ⊎_elim, ℕ, zero, suc, ℤ, List, [], ◌∷◌, length, get_or, replicate, Option, Some, None, refl, sym, ap, ◌∙◌, subst}
use Rattle.std.proofs.lemmas.List.{get_or_read, length-replicate}
use Rattle.kernel_gate.specs.Signed.{SignatureView, unnamed}
use Rattle.nested_jobs.proofs.Tabling.{put_row_at}
use Rattle.nested_jobs.specs.Marks.{Free}
use Rattle.nested_jobs.specs.Tables.{fresh_row, put_row}
use Rattle.pisdf_model.specs.declared.graph.Graph.{Graph}
use Rattle.pisdf_model.specs.declared.graph.Graphs.{Graphs}
use Rattle.pisdf_meaning.specs.Run.{top_firing}
use Rattle.pisdf_meaning.specs.Sound.{AreRunnable}
use Rattle.pisdf_meaning.specs.declared.firing.Firing.{Firing}
use Rattle.board_rules.specs.Asking.{JobRow}
use Rattle.board_rules.specs.Board.{Held, KeptAs, OpenJobs}
use Rattle.board_rules.specs.BoardLaws.{BoardsStart}
use Rattle.job_preparing.specs.View.{HasInherited}
use Rattle.job_rules.specs.Items.{no_graph}
use Rattle.board_rules.specs.Keys.{IsKey, Key, top_job}
use Rattle.board_rules.specs.Legal.{state_after}
use Rattle.quiescent_driver.specs.Given.{key_with}
use Rattle.audit_job.specs.Jobs.{IsJob}
use Rattle.audit_job.specs.Marks.{mark_at}
use Rattle.audit_job.specs.declared.job.Job.{Job}
use Rattle.journal_audit.specs.Replays.{HasEnd, IsTop, Replays}
use Rattle.journal_audit.specs.Standing.{AllJobs, IsOpenAt}
use Rattle.journal_audit.specs.Table.{held_as, held_of, job_row, table_of}
use Rattle.journal_audit.specs.declared.replay.Replay.{Replay}
use Rattle.journal_audit.specs.declared.table.Row.{Row}
use Rattle.journal_audit.specs.declared.table.Run.{Run}
use Rattle.journal_audit.proofs.Rows.{the_same}

none_at : (n w : ℕ) → get_or (replicate {A = Option Run} n None) w None ≡ None
none_at zero w = refl
none_at (suc n) zero = refl
none_at (suc n) (suc w) = none_at n w

module _ (start : BoardsStart) (graphs : Graphs) (key : Key) (workers : ℕ) (firing : Firing) (top : IsTop graphs workers firing key) (job : Job) (firing_is : job.firing ≡ firing) (free : (i : ℕ) → mark_at job.marks.items i ≡ Free) (is : IsJob graphs.graphs key.workers job)
    (replay : Replay) (workers_are : replay.workers ≡ workers) (rows_are : replay.rows.items ≡ Some record { job = job; place = [] } ∷ []) (running_are : replay.running.items ≡ replicate workers None) (end_is : replay.end ≡ None) where
  abbrev row : Row
  row = record { job = job; place = [] }

  abbrev fresh : JobRow
  fresh = fresh_row [] (top_job key)

  row_is : job_row row ≡ fresh
  row_is = let same = firing_is ∙ top.firing_is in λ x. record { place = []; job = same x; marks = λ (i : ℕ). free i x }

  alone : (l : ℕ) → 0 ≢ l → table_of (Some row ∷ []) l ≡ None
  alone zero apart = absurd (apart refl)
  alone (suc l) apart = refl

  table_at : (l : ℕ) → table_of (Some row ∷ []) l ≡ put_row (λ k. None) 0 (Some fresh) l
  table_at l = ⊎_elim
      (λ t. ap (table_of (Some row ∷ [])) (sym t.0) ∙ (ap (λ (r : JobRow). Some r) row_is ∙ sym t.1))
      (λ t. alone l t.0 ∙ sym t.1)
      (put_row_at (λ k. None) 0 (Some fresh) l)

  table_is : table_of replay.rows.items ≡ put_row (λ k. None) 0 (Some fresh)
  table_is = λ x l. (ap (λ (rs : List (Option Row)). table_of rs l) rows_are ∙ table_at l) x

  held_is : held_of replay.running.items ≡ (λ w. None)
  held_is = λ x w. ap held_as (ap (λ (rs : List (Option Run)). get_or rs w None) running_are ∙ none_at workers w) x

  jobs_one : AllJobs key (Some row ∷ [])
  jobs_one zero r here = subst (λ (x : Row). IsJob key.graphs.graphs key.workers x.job) (the_same (Some row) row r refl here) (subst (λ (gs : Graphs). IsJob gs.graphs key.workers job) (sym top.graphs_are) is)
  jobs_one (suc k) r here = absurd (cc)

  open_top : IsOpenAt (state_after key []).marks []
  open_top = (top_job key, ((start key 0).stands.rows 0 fresh refl).is_open)

  pub starts : Replays graphs key [] replay
  starts = record {
    keeps = record {
      is_key = top.is_key;
      graphs_are = top.graphs_are;
      kept = subst (λ (h : Held). KeptAs key [] (table_of replay.rows.items) h) (sym held_is) (subst (λ (t : OpenJobs). KeptAs key [] t (λ w. None)) (sym table_is) (start key 0));
      jobs = subst (AllJobs key) (sym rows_are) jobs_one;
    };
    workers_are = workers_are ∙ sym top.workers_are;
    one_each = ap (λ (l : List (Option Run)). length l) running_are ∙ (length-replicate workers None ∙ sym top.workers_are);
    end_is = subst (HasEnd (state_after key []).marks) (sym end_is) open_top;
  }

-- ---- the top job

module _ (graphs : Graphs) (kernels : List SignatureView) (state ins : List (List ℤ)) (workers : ℕ) (is : IsKey (key_with graphs kernels state ins workers)) (can : AreRunnable (unnamed kernels) graphs)
    (all : List Graph) (all_are : all ≡ graphs.graphs) (top : Graph) (top_is : top ≡ get_or all graphs.top top) (firing : Firing) (firing_is : firing ≡ top_firing top graphs.top ins state) where
  abbrev key : Key
  key = key_with graphs kernels state ins workers

  same_top : top ≡ get_or graphs.graphs graphs.top no_graph
  same_top = get_or_read graphs.graphs graphs.top top is.valid.valid.in_range.top (subst (λ (gs : List Graph). top ≡ get_or gs graphs.top top) all_are top_is) no_graph

  is_job : firing ≡ top_job key
  is_job = firing_is ∙ ap (λ (g : Graph). top_firing g graphs.top ins state) same_top

  own : HasInherited graphs.graphs (top_job key)
  own = record { one_each = sym can.none_inherited }

  pub is_top : IsTop graphs workers firing key
  is_top = record { is_key = is; graphs_are = refl; workers_are = refl; firing_is = is_job; inherited = subst (HasInherited graphs.graphs) (sym is_job) own }
