-- How many items are free after a write to the rows of a table.
use Rattle.std.proofs.Common.{◌≡◌, ℕ, suc, ◌+◌, ◌<◌, ◌≤◌, List, [], ◌∷◌, length, get_or, set, replicate, Option, Some, None, refl, sym, ap, ◌∙◌, arith}
use Rattle.job_preparing.specs.Handing.{ItemMarks, mark_at}
use Rattle.job_rules.specs.Items.{compile_number, graph_of}
use Rattle.job_rules.specs.Words.{Answer}
use Rattle.nested_jobs.specs.Marks.{Free, Mark}
use Rattle.graph_firing.specs.View.{OpenView, compilation_of, free_in, free_one, total}
use Rattle.graph_firing.proofs.Totals.{free_copies, total_set}
use Rattle.pisdf_meaning.specs.declared.firing.Firing.{Firing}
use Rattle.pisdf_model.specs.declared.graph.Graphs.{Graphs}
use Rattle.firing_board.specs.Table.Slots.{SameRows}
use Rattle.firing_board.specs.Table.View.{TableView, free_by, free_items, row_at}
use Rattle.firing_board.specs.declared.table.row.Row.{Row}

-- ---- one job

pub marks_freed : (marks : ItemMarks) (item : ℕ) (y : Mark Firing Answer) → item < length marks → free_in (set marks item y) + free_one (mark_at marks item) ≡ free_in marks + free_one y
marks_freed marks item y inside = total_set free_one marks item y Free inside

pub fresh_many : (graphs : Graphs) (firing : Firing) (job : OpenView) → job.graphs ≡ graphs → job.firing ≡ firing → job.marks ≡ replicate (compile_number (graph_of graphs.graphs firing) + 1) Free → free_in job.marks ≡ compilation_of job + 1
fresh_many graphs firing job graphs_are firing_is marks =
    let all = free_copies (compile_number (graph_of graphs.graphs firing) + 1) in
    let same : compilation_of job ≡ compile_number (graph_of graphs.graphs firing) = (λ i. compile_number (graph_of (graphs_are i).graphs (firing_is i))) in
    ap free_in marks ∙ (all ∙ ap (λ (n : ℕ). n + 1) (sym same))

-- ---- rows

none_free : (rows : List (Option Row)) → ((k : ℕ) → get_or rows k None ≡ None) → total free_by rows ≡ 0
none_free [] none = refl
none_free (r ∷ rows) none =
    let one : free_by r ≡ 0 = ap free_by (none 0) in
    let rest = none_free rows (λ k. none (suc k)) in
    omega arith

pub same_free : (old new : List (Option Row)) → SameRows old new → total free_by new ≡ total free_by old
same_free [] new same = none_free new same
same_free (r ∷ old) [] same = sym (none_free (r ∷ old) (λ k. sym (same k)))
same_free (r ∷ old) (s ∷ new) same =
    let one : free_by s ≡ free_by r = ap free_by (same 0) in
    let rest = same_free old new (λ k. same (suc k)) in
    omega arith

-- another row stands at a key
pub row_freed : (rows : List (Option Row)) (k : ℕ) (before after : Option Row) → k < length rows → get_or rows k None ≡ before → total free_by (set rows k after) + free_by before ≡ total free_by rows + free_by after
row_freed rows k before after inside here =
    let all = total_set free_by rows k after None inside in
    let was : free_by (get_or rows k None) ≡ free_by before = ap free_by here in
    omega (arith, all, was)

-- a row is taken away
pub less_free : (now rest : TableView) (k : ℕ) (row : Row) → row_at now k ≡ Some row → k < length now.rows → rest.rows ≡ set now.rows k None → free_items rest ≤ free_items now
less_free now rest k row here inside less =
    let all = row_freed now.rows k (Some row) None inside here in
    let same : free_items rest ≡ total free_by (set now.rows k None) = ap (total free_by) less in
    omega (arith, all, same)
