-- What a step of one item keeps of its job.
use Rattle.std.proofs.Common.{◌≡◌, ◌≢◌, ℕ, zero, suc, ◌+◌, ◌<◌, ◌⊎◌, inl, inr, ⊎_elim, List, [], ◌∷◌, length, set, get_or, Option, Some, None, is_some, refl, sym, ap, ◌∙◌, arith}
use Rattle.std.proofs.lemmas.List.{length-set}
use Rattle.kernel_gate.specs.Value.{Places}
use Rattle.level_schedule.specs.declared.scheduling.LevelSchedule.{LevelSchedule}
use Rattle.nested_jobs.specs.Marks as mark
use Rattle.nested_jobs.specs.Marks.{Mark, Free, Done}
use Rattle.pisdf_meaning.specs.declared.firing.Firing.{Firing}
use Rattle.job_rules.specs.Words.{Answer, Schedules}
use Rattle.job_rules.specs.Items.{compile_number, node_base}
use Rattle.job_preparing.specs.Handing.{mark_at}
use Rattle.job_preparing.specs.View as preparing
use Rattle.job_preparing.specs.View.{ConfiguringView}
use Rattle.graph_firing.specs.Nodes.View.{RunningView}
use Rattle.graph_firing.specs.View.{OpenView}
use Rattle.graph_firing.specs.Calls.{with_item, with_mark}
use Rattle.graph_firing.specs.Invariants.{KeepsWith, StageFits, compile_mark, node_lent, node_marks, view_with, stage_cells, stage_room}
use Rattle.graph_firing.specs.Running.{RunsFor}
use Rattle.graph_firing.specs.Stages.{with_node, with_node_mark}
use Rattle.graph_firing.specs.declared.stage.Stage.{Stage}
use Rattle.graph_firing.specs.declared.stage.Stage.TheVariants.{Waiting, Compiling, Refused, Nodes}
use Rattle.graph_firing.proofs.Cut.{put_after, put_before}
use Rattle.graph_firing.proofs.Offered.{all_done}

-- ---- lists that are written at one place

-- what stands in a list after a write at one place is what was written, or what stood there
pub read_written : {T : Type 0} (xs : List T) (i : ℕ) (y d : T) (j : ℕ) → (get_or (set xs i y) j d ≡ y) ⊎ (get_or (set xs i y) j d ≡ get_or xs j d)
read_written [] i y d j = inr refl
read_written (x ∷ xs) zero y d zero = inl refl
read_written (x ∷ xs) zero y d (suc j) = inr refl
read_written (x ∷ xs) (suc i) y d zero = inr refl
read_written (x ∷ xs) (suc i) y d (suc j) = read_written xs i y d j

-- what isn't the default stands inside
pub stands_inside : {T : Type 0} (xs : List T) (i : ℕ) (d : T) → (get_or xs i d ≡ d → ⊥) → i < length xs
stands_inside [] i d differs = absurd (differs refl)
stands_inside (x ∷ xs) zero d differs = omega arith
stands_inside (x ∷ xs) (suc i) d differs = let rest = stands_inside xs i d differs in omega arith

-- ---- configuration actors

module _ (c : ConfiguringView) (workers : ℕ) (stage : Stage) (keeps : KeepsWith c workers stage) (i : ℕ) (below : i < compile_number (preparing.graph_in c)) where
  abbrev v : OpenView
  v = view_with c workers stage

  abbrev pub with_actor : Mark Firing Answer → Option Places → ConfiguringView
  with_actor m p = record { graphs = c.graphs; firing = c.firing; marks = set c.marks i m; lent = set c.lent i p }

  abbrev pub with_actor_mark : Mark Firing Answer → ConfiguringView
  with_actor_mark m = record { graphs = c.graphs; firing = c.firing; marks = set c.marks i m; lent = c.lent }

  pub item_before : (m : Mark Firing Answer) (p : Option Places) → view_with (with_actor m p) workers stage ≡ with_item v i m p
  item_before m p =
      let marks = put_before c.marks (compile_mark stage) (node_marks stage) m i (let long = keeps.marks_many in omega arith) in
      let lent = put_before c.lent None (node_lent stage) p i (let long = keeps.lent_many in omega arith) in
      λ t. record { graphs = c.graphs; workers = workers; firing = c.firing; cells = stage_cells stage; room = stage_room stage; marks = sym marks t; lent = sym lent t }

  pub mark_before : (m : Mark Firing Answer) → view_with (with_actor_mark m) workers stage ≡ with_mark v i m
  mark_before m =
      let marks = put_before c.marks (compile_mark stage) (node_marks stage) m i (let long = keeps.marks_many in omega arith) in
      λ t. record { graphs = c.graphs; workers = workers; firing = c.firing; cells = stage_cells stage; room = stage_room stage; marks = sym marks t; lent = v.lent }

  -- an actor that isn't finished waits for the compilation
  waits_for : (ready : preparing.IsReady c) → mark.answer_of (mark_at c.marks i) ≡ None → ⊥
  waits_for ready unfinished =
      let done = all_done c ready i below in
      let e : Some done.0 ≡ None = sym (ap mark.answer_of done.1) ∙ unfinished in
      cc

  stage_waits : (d : ConfiguringView) → mark.answer_of (mark_at c.marks i) ≡ None → (s : Stage) → StageFits c workers s → StageFits d workers s
  stage_waits d unfinished Waiting fits = tt
  stage_waits d unfinished Compiling fits = absurd (waits_for fits unfinished)
  stage_waits d unfinished (Refused refusal) fits = absurd (waits_for fits unfinished)
  stage_waits d unfinished (Nodes r) fits = absurd (waits_for (ap is_some fits.left_is) unfinished)

  gave_still : (m : Mark Firing Answer) → ((s : LevelSchedule) → m ≢ Done (Schedules s)) → (j : ℕ) (s : LevelSchedule) → mark_at (set c.marks i m) j ≢ Done (Schedules s)
  gave_still m none j s is = ⊎_elim
      (λ (own : mark_at (set c.marks i m) j ≡ m). none s (sym own ∙ is))
      (λ (other : mark_at (set c.marks i m) j ≡ mark_at c.marks j). keeps.gave j s (sym other ∙ is))
      (read_written c.marks i m Free j)

  module _ (unfinished : mark.answer_of (mark_at c.marks i) ≡ None) (m : Mark Firing Answer) (none : (s : LevelSchedule) → m ≢ Done (Schedules s)) where
    pub keeps_item : (p : Option Places) → KeepsWith (with_actor m p) workers stage
    keeps_item p = record {
      valid = keeps.valid;
      fit = keeps.fit;
      some = keeps.some;
      marks_many = length-set c.marks i m ∙ keeps.marks_many;
      lent_many = length-set c.lent i p ∙ keeps.lent_many;
      gave = gave_still m none;
      stage_fits = stage_waits (with_actor m p) unfinished stage keeps.stage_fits;
    }

    pub keeps_mark : KeepsWith (with_actor_mark m) workers stage
    keeps_mark = record {
      valid = keeps.valid;
      fit = keeps.fit;
      some = keeps.some;
      marks_many = length-set c.marks i m ∙ keeps.marks_many;
      lent_many = keeps.lent_many;
      gave = gave_still m none;
      stage_fits = stage_waits (with_actor_mark m) unfinished stage keeps.stage_fits;
    }

-- ---- nodes

module _ (c : ConfiguringView) (workers : ℕ) (r : RunningView) (keeps : KeepsWith c workers (Nodes r)) (n : ℕ) where
  abbrev x : OpenView
  x = view_with c workers (Nodes r)

  abbrev base : ℕ
  base = node_base (preparing.graph_in c)

  pub item_after : (m : Mark Firing Answer) (p : Option Places) → view_with c workers (Nodes (with_node r n m p)) ≡ with_item x (base + n) m p
  item_after m p =
      let marks = put_after c.marks (compile_mark (Nodes r)) r.marks m base n (let long = keeps.marks_many in omega arith) in
      let lent = put_after c.lent None r.lent p base n (let long = keeps.lent_many in omega arith) in
      λ t. record { graphs = c.graphs; workers = workers; firing = c.firing; cells = Some r.cells; room = Some r.room; marks = sym marks t; lent = sym lent t }

  pub mark_after : (m : Mark Firing Answer) → view_with c workers (Nodes (with_node_mark r n m)) ≡ with_mark x (base + n) m
  mark_after m =
      let marks = put_after c.marks (compile_mark (Nodes r)) r.marks m base n (let long = keeps.marks_many in omega arith) in
      λ t. record { graphs = c.graphs; workers = workers; firing = c.firing; cells = Some r.cells; room = Some r.room; marks = sym marks t; lent = x.lent }

  pub keeps_node : (m : Mark Firing Answer) (p : Option Places) → KeepsWith c workers (Nodes (with_node r n m p))
  keeps_node m p =
      let runs : RunsFor c workers r = keeps.stage_fits in
      record {
        valid = keeps.valid;
        fit = keeps.fit;
        some = keeps.some;
        marks_many = keeps.marks_many;
        lent_many = keeps.lent_many;
        gave = keeps.gave;
        stage_fits = record {
          graphs_are = runs.graphs_are;
          workers_are = runs.workers_are;
          firing_is = runs.firing_is;
          left_is = runs.left_is;
          marks_many = length-set r.marks n m ∙ runs.marks_many;
          lent_many = length-set r.lent n p ∙ runs.lent_many;
          mapped = runs.mapped;
        };
      }

  pub keeps_node_mark : (m : Mark Firing Answer) → KeepsWith c workers (Nodes (with_node_mark r n m))
  keeps_node_mark m =
      let runs : RunsFor c workers r = keeps.stage_fits in
      record {
        valid = keeps.valid;
        fit = keeps.fit;
        some = keeps.some;
        marks_many = keeps.marks_many;
        lent_many = keeps.lent_many;
        gave = keeps.gave;
        stage_fits = record {
          graphs_are = runs.graphs_are;
          workers_are = runs.workers_are;
          firing_is = runs.firing_is;
          left_is = runs.left_is;
          marks_many = length-set r.marks n m ∙ runs.marks_many;
          lent_many = runs.lent_many;
          mapped = runs.mapped;
        };
      }
