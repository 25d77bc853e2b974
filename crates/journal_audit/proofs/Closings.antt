-- Jobs are closed, from the row of a finished item up.
use Rattle.std.proofs.Common.{◌≡◌, ◌≢◌, ℕ, ◌<◌, ◌==◌, Bool, true, false, List, [], ◌∷◌, length, drop, get_or, set, Option, Some, None, refl, sym, ap, ◌∙◌, subst, arith}
use Rattle.std.proofs.lemmas.Bool.{eqb-true}
use Rattle.std.proofs.lemmas.List.{get_or-set_other, get_or-set_same}
use Rattle.job_rules.specs.Items.{first_refusal, count, graph_of, job_rules, outcome, outcome_of}
use Rattle.job_rules.specs.Meant.{rank}
use Rattle.job_rules.specs.Words.{Answer}
use Rattle.nested_jobs.proofs.Nesting.{journal_nested, top_open}
use Rattle.nested_jobs.proofs.Places.{cons_ne}
use Rattle.nested_jobs.specs.Marks.{Done, Open, put}
use Rattle.nested_jobs.specs.Meanings.{Lawful}
use Rattle.nested_jobs.specs.Rules.{Place}
use Rattle.nested_jobs.specs.Tables.{answers_in, is_quiet_row, put_row, with_mark}
use Rattle.pisdf_meaning.specs.declared.firing.Firing.{Firing}
use Rattle.pisdf_meaning.specs.declared.refusal.Refusal.{Refusal}
use Rattle.pisdf_model.specs.declared.graph.Graph.{Graph}
use Rattle.pisdf_model.specs.declared.graph.Graphs.{Graphs}
use Rattle.board_rules.specs.Asking.{JobRow}
use Rattle.board_rules.specs.Board.{IsClosing, OpenJobs, hold}
use Rattle.board_rules.specs.BoardLaws.{ClosingsEnd, ClosingsGoOn, ClosingsStop, IsOver}
use Rattle.board_rules.specs.Keys.{rules, top_job}
use Rattle.board_rules.specs.Legal.{state_after}
use Rattle.audit_job.specs.Jobs.{IsJob, IsUnscheduled, row_of}
use Rattle.audit_job.specs.Marks.{answer_of, answers, mark_at}
use Rattle.audit_job.specs.declared.answer.Answer.{Answer as Own}
use Rattle.journal_audit.specs.Closing.{ClosesAll, ClosesFrom, ClosesInside, Finishing, steps_with}
use Rattle.journal_audit.specs.Slots.{MarksRow}
use Rattle.journal_audit.specs.Standing.{StandsSo}
use Rattle.journal_audit.specs.Table.{IsAt, IsKeyOf, job_row, row_at, table_of}
use Rattle.journal_audit.specs.declared.table.Row.{Row}
use Rattle.journal_audit.proofs.LastSteps.{AllLawful, found_at, row_found, upper_of}
use Rattle.journal_audit.proofs.Rows.{in_table, inside_of, jobs_less, jobs_set, row_marked, table_set, the_same}

-- ---- outcomes

abbrev unscheduled_by : (graphs : List Graph) (g : Graph) (firing : Firing) (v : ℕ → Option Answer) (o : Option Refusal) → Type 0
unscheduled_by graphs g firing v o = IsUnscheduled (outcome_of graphs g firing v o)

outcome_so : (graphs : List Graph) (g : Graph) (firing : Firing) (v : ℕ → Option Answer) (o : Option Refusal) → unscheduled_by graphs g firing v o
outcome_so graphs g firing v None = tt
outcome_so graphs g firing v (Some refusal) = tt

pub unscheduled : (graphs : List Graph) (firing : Firing) (v : ℕ → Option Answer) (a : Answer) → a ≡ outcome graphs firing v → IsUnscheduled a
unscheduled graphs firing v a is = subst IsUnscheduled (sym is) (outcome_so graphs (graph_of graphs firing) firing v (first_refusal v 0 (count graphs firing v)))

pub nil_of : (xs : List ℕ) (b : Bool) → b ≡ (length xs == 0) → b ≡ true → xs ≡ []
nil_of [] b is t = refl
nil_of (x ∷ xs) b is t = let e = eqb-true (length (x ∷ xs)) 0 (sym is ∙ t) in absurd (omega arith)

pub some_of : (xs : List ℕ) (b : Bool) → b ≡ (length xs == 0) → b ≡ false → xs ≡ get_or xs 0 0 ∷ drop 1 xs
some_of [] b is f = let e : true ≡ false = sym is ∙ f in absurd (cc)
some_of (x ∷ xs) b is f = refl

-- how deep the job in a row is
abbrev pub depth_of : Option Row → ℕ
depth_of None = 0
depth_of (Some row) = length row.place

module _ (law : AllLawful) (graphs : Graphs) (rows : List (Option Row)) (k : ℕ) (f : Finishing) (c : ClosesFrom graphs rows k f) where
  lawful : Lawful (rules f.key) (rank f.key.graphs.graphs)
  lawful = law f.key.graphs c.is_key.valid.valid

  abbrev row : JobRow
  row = job_row c.row

  here : table_of rows k ≡ Some row
  here = in_table rows k c.row c.here

  pub so : StandsSo graphs rows f.key c.marks
  so = record { is_key = c.is_key; graphs_are = c.graphs_are; nested = c.closing.nested; stands = c.closing.stands; jobs = c.jobs }

  pub is_job : IsJob graphs.graphs f.key.workers c.row.job
  is_job = subst (λ (gs : Graphs). IsJob gs.graphs f.key.workers c.row.job) c.graphs_are (c.jobs k c.row c.here)

  -- the test is the rules'
  quiet_so : (b : Bool) → is_quiet_row (job_rules graphs.graphs) (row_of [] c.row.job) ≡ b → is_quiet_row (rules f.key) row ≡ b
  quiet_so b is = ap (λ (gs : Graphs). is_quiet_row (job_rules gs.graphs) row) c.graphs_are ∙ is

  -- it stops at a job that isn't quiet
  pub stops : ClosingsStop → is_quiet_row (job_rules graphs.graphs) (row_of [] c.row.job) ≡ false → ClosesInside rows f
  stops stop unquiet =
      let kept = stop f.key f.taken f.held f.worker f.answer (table_of rows) c.marks k row c.is_key c.closing here (quiet_so false unquiet) in
      let nested = journal_nested (rules f.key) (rank f.key.graphs.graphs) lawful (top_job f.key) (steps_with f) in
      record {
        kept = kept;
        jobs = c.jobs;
        top = top_open (rules f.key) (rank f.key.graphs.graphs) lawful (top_job f.key) (state_after f.key (steps_with f)).marks c.row.place c.row.job.firing nested (kept.stands.rows k row here).is_open;
      }

  module _ (quiet : is_quiet_row (job_rules graphs.graphs) (row_of [] c.row.job) ≡ true) (end : Own) (end_is : answer_of end ≡ outcome graphs.graphs c.row.job.firing (answers c.row.job.marks.items)) where
    abbrev out : Answer
    out = outcome f.key.graphs.graphs row.job (answers_in row)

    out_is : out ≡ answer_of end
    out_is = ap (λ (gs : Graphs). outcome gs.graphs c.row.job.firing (answers c.row.job.marks.items)) c.graphs_are ∙ sym end_is

    pub end_unscheduled : IsUnscheduled (answer_of end)
    end_unscheduled = unscheduled graphs.graphs c.row.job.firing (answers c.row.job.marks.items) (answer_of end) end_is

    abbrev less : List (Option Row)
    less = set rows k None

    k_in : k < length rows
    k_in = inside_of rows k c.row c.here

    -- it ends at the top job
    pub ends : ClosingsEnd → c.row.place ≡ [] → ClosesAll less f end
    ends law_ends top =
        let closing = subst (IsClosing f.key f.taken f.held f.worker f.answer (table_of rows) c.marks) top c.closing in
        let over = law_ends f.key f.taken f.held f.worker f.answer (table_of rows) c.marks k row c.is_key closing here top (quiet_so true quiet) in
        record {
          over = subst (λ (a : Answer). IsOver f.key (steps_with f) (table_of less) (hold f.held f.worker None) a) out_is
              (subst (λ (t : OpenJobs). IsOver f.key (steps_with f) t (hold f.held f.worker None) out) (sym (table_set rows k None k_in)) over);
          jobs = jobs_less f.key rows k k_in c.jobs;
        }

    -- else it goes on at the row of the item that called the job
    module _ (i : ℕ) (p : Place) (place_is : c.row.place ≡ i ∷ p) where
      open_here : c.marks (i ∷ p) ≡ Open c.row.job.firing
      open_here = ap c.marks (sym place_is) ∙ (c.closing.stands.rows k row here).is_open

      up_open : (d : Firing) × (c.marks p ≡ Open d)
      up_open = let up = upper_of law graphs rows f.key c.marks so i p c.row.job.firing open_here in (up.job, up.is_open)

      not_k : (l : ℕ) → IsAt p (row_at rows l) → l ≢ k
      not_k l at e =
          let u = row_found law graphs rows f.key c.marks so p l at in
          let same : c.row ≡ u.0 = the_same (row_at rows k) c.row u.0 c.here (ap (row_at rows) (sym e) ∙ u.1) in
          cons_ne i p (sym place_is ∙ (ap (λ (r : Row). r.place) same ∙ u.2))

      -- where the row itself is taken away
      less_at : (l : ℕ) → l ≢ k → row_at less l ≡ row_at rows l
      less_at l apart = get_or-set_other rows k l None None apart

      less_here : row_at less k ≡ None
      less_here = get_or-set_same rows k None None k_in

      pub round_found : IsKeyOf less p None → ⊥
      round_found none = found_at law graphs rows f.key c.marks so p up_open (λ l at. none l (subst (IsAt p) (sym (less_at l (not_k l at))) at))

      module _ (l : ℕ) (at : IsAt p (row_at less l)) where
        l_apart : l ≢ k
        l_apart e = subst (IsAt p) (ap (row_at less) e ∙ less_here) at

        pub up : (u : Row) × (row_at rows l ≡ Some u) × (u.place ≡ p)
        up = row_found law graphs rows f.key c.marks so p l (subst (IsAt p) (less_at l l_apart) at)

        abbrev pub upper : Row
        upper = up.0

        pub upper_here : row_at less l ≡ Some upper
        upper_here = less_at l l_apart ∙ up.1

        pub upper_inside : l < length less
        upper_inside = inside_of less l upper upper_here

        place_up : c.row.place ≡ i ∷ upper.place
        place_up = place_is ∙ ap (λ (q : Place). i ∷ q) (sym up.2)

        gone_on : ClosingsGoOn → ((job_row upper).marks i ≡ Open row.job)
            × IsClosing f.key f.taken f.held f.worker f.answer (put_row (put_row (table_of rows) k None) l (Some (with_mark (job_row upper) i (Done out)))) (put c.marks (i ∷ upper.place) (Done out)) upper.place
        gone_on go_on =
            go_on f.key f.taken f.held f.worker f.answer (table_of rows) c.marks k l i row (job_row upper) c.is_key (subst (IsClosing f.key f.taken f.held f.worker f.answer (table_of rows) c.marks) place_up c.closing) here (in_table rows l upper up.1) place_up (quiet_so true quiet)

        pub called : ClosingsGoOn → mark_at upper.job.marks.items i ≡ Open c.row.job.firing
        called go_on = (gone_on go_on).0

        pub upper_job : IsJob f.key.graphs.graphs f.key.workers upper.job
        upper_job = c.jobs l upper up.1

        -- once its item is finished with this end
        module _ (after : Row) (m : MarksRow i (Done (answer_of end)) upper after) where
          abbrev mid : List (Option Row)
          mid = set less l (Some after)

          pub goes_on : ClosingsGoOn → ClosesFrom graphs mid l f
          goes_on go_on =
              let y : Answer = answer_of end in
              let g = gone_on go_on in
              let row_is = row_marked upper after i (Done y) m in
              let table : table_of mid ≡ put_row (put_row (table_of rows) k None) l (Some (with_mark (job_row upper) i (Done y))) =
              table_set less l (Some after) upper_inside ∙ (λ x. put_row (table_set rows k None k_in x) l (Some (row_is x))) in
              let Q : Answer → Type 0 = λ a. IsClosing f.key f.taken f.held f.worker f.answer (put_row (put_row (table_of rows) k None) l (Some (with_mark (job_row upper) i (Done a)))) (put c.marks (i ∷ upper.place) (Done a)) upper.place in
              let closing = subst Q out_is g.1 in
              let place : upper.place ≡ after.place = sym m.place_is in
              record {
                is_key = c.is_key;
                graphs_are = c.graphs_are;
                marks = put c.marks (i ∷ upper.place) (Done y);
                row = after;
                here = get_or-set_same less l (Some after) None upper_inside;
                closing = subst (IsClosing f.key f.taken f.held f.worker f.answer (table_of mid) (put c.marks (i ∷ upper.place) (Done y))) place
                    (subst (λ (t : OpenJobs). IsClosing f.key f.taken f.held f.worker f.answer t (put c.marks (i ∷ upper.place) (Done y)) upper.place) (sym table) closing);
                jobs = jobs_set f.key less l after upper_inside (jobs_less f.key rows k k_in c.jobs) (m.marks.is_job f.key.graphs.graphs f.key.workers upper_job);
              }

          pub falls : depth_of (row_at mid l) < depth_of (row_at rows k)
          falls =
              let a = ap depth_of (get_or-set_same less l (Some after) None upper_inside) in
              let b = ap depth_of c.here in
              let d = ap length m.place_is in
              let e = ap length place_up in
              omega arith
