use Rattle.std.proofs.Common.{◌≡◌, ◌∷◌, Option, Some, None, List, sym, ap, ◌∙◌, subst, arith}
use Rattle.job_rules.specs.Items.{rule}
use Rattle.job_rules.specs.Words.{Answer}
use Rattle.nested_jobs.specs.Marks.{Marks, Open, put}
use Rattle.pisdf_meaning.specs.declared.firing.Firing.{Firing}
use Rattle.board_rules.specs.Keys.{Key}
use Rattle.audit_job.specs.Jobs.{IsJob}
use Rattle.audit_job.specs.Kinds.{IsKind}
use Rattle.audit_job.specs.Marks.{answers}
use Rattle.audit_job.specs.declared.answer.Kind.{Kind}
use Rattle.journal_audit.specs.Opening.{CallsHere, OpensChild, Reaches}
use Rattle.journal_audit.specs.Table.{row_at}
use Rattle.journal_audit.specs.declared.table.Row.{Row}
use Rattle.journal_audit.specs.declared.table.Run.{Run}
use Rattle.journal_audit.proofs.AskedRows.{some_there}
use Rattle.journal_audit.proofs.LastSteps.{lawful}
use Rattle.journal_audit.proofs.Openings.{call_reached, child_answers, child_calls, if_ok, later, rank_falls, work_reached}
use Rattle.journal_audit.proofs.Rows.{the_same}
use Rattle.journal_audit.proofs.opening.+open_way.Invariants.{rank_of}
use Rattle.journal_audit.proofs.opening.+open_way.Goals as goal

pub row_at-requires : goal.row_at-requires
row_at-requires t c =
    let r = c.requires in
    let graphs = c.args.graphs.now in
    let rows = c.args.rows.now.items in
    let l = c.in_ok-child.child in
    let new = c.open_child.new.rows.items in
    let o : OpensChild graphs c.args.at rows l new = c.in_ok-child.ensures in
    some_there (row_at c.as_slice.result.now l) o.child.row (ap (λ (rs : List (Option Row)). row_at rs l) c.as_slice.ensures.value ∙ o.added)

pub kind_of-requires : goal.kind_of-requires
kind_of-requires t c =
    let r = c.requires in
    let graphs = c.args.graphs.now in
    let rows = c.args.rows.now.items in
    let l = c.in_ok-child.child in
    let new = c.open_child.new.rows.items in
    let o : OpensChild graphs c.args.at rows l new = c.in_ok-child.ensures in
    let row = c.row_at.result.now in
    let there : row_at new l ≡ Some row = sym (ap (λ (rs : List (Option Row)). row_at rs l) c.as_slice.ensures.value) ∙ c.row_at.ensures in
    let same : o.child.row ≡ row = the_same (row_at new l) o.child.row row o.added there in
    (r.0.workers, subst (λ (x : Row). IsJob graphs.graphs r.0.workers x.job) same (o.is_child.is_job r.0.workers))

pub open_way-requires : goal.open_way-requires
open_way-requires t c =
    let r = c.requires in
    let graphs = c.args.graphs.now in
    let rows = c.args.rows.now.items in
    let l = c.in_ok-child.child in
    let new = c.open_child.new.rows.items in
    let o : OpensChild graphs c.args.at rows l new = c.in_ok-child.ensures in
    let row = c.row_at.result.now in
    let there : row_at new l ≡ Some row = sym (ap (λ (rs : List (Option Row)). row_at rs l) c.as_slice.ensures.value) ∙ c.row_at.ensures in
    let same : o.child.row ≡ row = the_same (row_at new l) o.child.row row o.added there in
    let T : Row → Kind → Type 0 = λ (x : Row) (k : Kind). IsKind (rule graphs.graphs x.job.firing (answers x.job.marks.items) 0) (Some k) in
    let kind = subst (λ (x : Row). IsKind (rule graphs.graphs x.job.firing (answers x.job.marks.items) 0) c.kind_of.result) (sym same) c.kind_of.ensures in
    let told = subst (T o.child.row) c.in-Some-Call.field-0-is (subst (IsKind (rule graphs.graphs o.child.row.job.firing (answers o.child.row.job.marks.items) 0)) c.in-Some-Call.is kind) in
    let one = c.boards_keep.ensures.one_more_opened in
    let law = lawful c.rules_are_lawful.ensures graphs rows r.0 r.1 r.2.so in
    let falls = rank_falls one graphs r.0 r.1 rows c.args.at r.2 l new o law in
    let below = ap (rank_of graphs) o.added in
    let above = ap (rank_of graphs) o.here in (
      omega (arith, c.decreases),
      (r.0, later one graphs r.0 r.1 rows c.args.at r.2 l new o, child_calls one graphs r.0 r.1 rows c.args.at r.2 l new o c.calls_are_fit.ensures.first told.0 told.1),
    )

pub returns-in-Some-Call : goal.returns-in-Some-Call
returns-in-Some-Call t c =
    let r = c.requires in
    let graphs = c.args.graphs.now in
    let rows = c.args.rows.now.items in
    let l = c.in_ok-child.child in
    let new = c.open_child.new.rows.items in
    let o : OpensChild graphs c.args.at rows l new = c.in_ok-child.ensures in
    let row = c.row_at.result.now in
    let there : row_at new l ≡ Some row = sym (ap (λ (rs : List (Option Row)). row_at rs l) c.as_slice.ensures.value) ∙ c.row_at.ensures in
    let same : o.child.row ≡ row = the_same (row_at new l) o.child.row row o.added there in
    let T : Row → Kind → Type 0 = λ (x : Row) (k : Kind). IsKind (rule graphs.graphs x.job.firing (answers x.job.marks.items) 0) (Some k) in
    let kind = subst (λ (x : Row). IsKind (rule graphs.graphs x.job.firing (answers x.job.marks.items) 0) c.kind_of.result) (sym same) c.kind_of.ensures in
    let told = subst (T o.child.row) c.in-Some-Call.field-0-is (subst (IsKind (rule graphs.graphs o.child.row.job.firing (answers o.child.row.job.marks.items) 0)) c.in-Some-Call.is kind) in
    let one = c.boards_keep.ensures.one_more_opened in
    let end = c.open_way.new.rows.items in
    if_ok c.open_way.result
    (λ (run : Run). (key : Key) (m : Marks Firing Answer) → (h : CallsHere graphs key m new record { row = l; item = 0 }) → Reaches graphs key m new 0 h.row.place end run)
    (λ (run : Run). (key : Key) (m : Marks Firing Answer) → (h : CallsHere graphs key m rows c.args.at) → Reaches graphs key m rows c.args.at.item h.row.place end run)
    (λ run reached. λ key m h.
    let later : Marks Firing Answer = put m (c.args.at.item ∷ o.upper.place) (Open o.child.called.value) in
    let calls = child_calls one graphs key m rows c.args.at h l new o c.calls_are_fit.ensures.first told.0 told.1 in
    let is = the_same (row_at new l) calls.row o.child.row calls.here o.added in
    call_reached one graphs key m rows c.args.at h l new o end run (subst (λ (x : Row). Reaches graphs key later new 0 x.place end run) is (reached key later calls)))
    c.open_way.ensures

pub returns-in-Some-Work : goal.returns-in-Some-Work
returns-in-Some-Work t c = λ key m h.
    let r = c.requires in
    let graphs = c.args.graphs.now in
    let rows = c.args.rows.now.items in
    let l = c.in_ok-child.child in
    let new = c.open_child.new.rows.items in
    let o : OpensChild graphs c.args.at rows l new = c.in_ok-child.ensures in
    let row = c.row_at.result.now in
    let there : row_at new l ≡ Some row = sym (ap (λ (rs : List (Option Row)). row_at rs l) c.as_slice.ensures.value) ∙ c.row_at.ensures in
    let same : o.child.row ≡ row = the_same (row_at new l) o.child.row row o.added there in
    let T : Row → Kind → Type 0 = λ (x : Row) (k : Kind). IsKind (rule graphs.graphs x.job.firing (answers x.job.marks.items) 0) (Some k) in
    let kind = subst (λ (x : Row). IsKind (rule graphs.graphs x.job.firing (answers x.job.marks.items) 0) c.kind_of.result) (sym same) c.kind_of.ensures in
    let told = subst (T o.child.row) c.in-Some-Work.field-0-is (subst (IsKind (rule graphs.graphs o.child.row.job.firing (answers o.child.row.job.marks.items) 0)) c.in-Some-Work.is kind) in
    work_reached c.boards_keep.ensures.one_more_opened graphs key m rows c.args.at h l new o told.0 told.1

pub unreachable-requires : goal.unreachable-requires
unreachable-requires t c =
    let r = c.requires in
    let graphs = c.args.graphs.now in
    let rows = c.args.rows.now.items in
    let l = c.in_ok-child.child in
    let new = c.open_child.new.rows.items in
    let o : OpensChild graphs c.args.at rows l new = c.in_ok-child.ensures in
    let row = c.row_at.result.now in
    let there : row_at new l ≡ Some row = sym (ap (λ (rs : List (Option Row)). row_at rs l) c.as_slice.ensures.value) ∙ c.row_at.ensures in
    let same : o.child.row ≡ row = the_same (row_at new l) o.child.row row o.added there in
    let kind = subst (λ (x : Row). IsKind (rule graphs.graphs x.job.firing (answers x.job.marks.items) 0) c.kind_of.result) (sym same) c.kind_of.ensures in
    let none = subst (IsKind (rule graphs.graphs o.child.row.job.firing (answers o.child.row.job.marks.items) 0)) c.in-None.is kind in
    let begun = c.rows_are_asked.ensures.begin r.0 o.child.row.job.firing in
    let own = child_answers c.boards_keep.ensures.one_more_opened graphs r.0 r.1 rows c.args.at r.2 l new o in
    let bare : rule r.0.graphs.graphs o.child.row.job.firing (λ i. None) 0 ≡ None =
    (λ x. rule (r.2.so.graphs_are x).graphs o.child.row.job.firing (sym own x) 0) ∙ none in
    let some = begun.1 in
    cc
