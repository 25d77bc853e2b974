use Rattle.std.proofs.Common.{◌≡◌, ◌<◌, ℕ, List, Option, Some, length, set, sym, ap, ◌∙◌, subst}
use Rattle.job_rules.specs.Items.{rule}
use Rattle.nested_jobs.specs.Marks.{Free, Open}
use Rattle.nested_jobs.specs.Rules.{Call}
use Rattle.pisdf_model.specs.declared.graph.Graph.{Graph}
use Rattle.audit_job.specs.Jobs.{IsJob}
use Rattle.audit_job.specs.Marks.{answers, mark_at}
use Rattle.journal_audit.specs.Opening.{OpensChild, TaskIs}
use Rattle.journal_audit.specs.Slots.{IsMarkedSlot, MarksSlot}
use Rattle.journal_audit.specs.Table.{row_at}
use Rattle.journal_audit.specs.declared.table.Row.{Row}
use Rattle.journal_audit.proofs.AskedRows.{some_there}
use Rattle.journal_audit.proofs.LastSteps.{lawful}
use Rattle.journal_audit.proofs.Openings.{item_so, job_so, mid_here, mid_inside, mid_same, opens_by, slot_so, valid_so}
use Rattle.journal_audit.proofs.Rows.{slot_is}
use Rattle.journal_audit.proofs.opening.open_child.Goals as goal

pub row_at-requires : goal.row_at-requires
row_at-requires c =
    let r = c.requires in
    let mid = c.vacant_key.new.rows.items in
    let here = mid_here c.args.graphs.now r.0 r.1 c.args.rows.now.items c.args.at r.2 mid c.in_ok-key.ensures.1 in
    some_there (row_at c.as_slice.result.now c.args.at.row) r.2.row (ap (λ (rs : List (Option Row)). row_at rs c.args.at.row) c.as_slice.ensures.value ∙ here)

pub child_of-requires-clause-valid : goal.child_of-requires-clause-valid
child_of-requires-clause-valid c = let r = c.requires in valid_so c.args.graphs.now r.0 r.1 c.args.rows.now.items c.args.at r.2

pub child_of-requires-clause-is : goal.child_of-requires-clause-is
child_of-requires-clause-is c =
    let r = c.requires in
    let mid = c.vacant_key.new.rows.items in
    let graphs = c.args.graphs.now in
    let there = sym (ap (λ (rs : List (Option Row)). row_at rs c.args.at.row) c.as_slice.ensures.value) ∙ c.row_at.ensures in
    let same = mid_same graphs r.0 r.1 c.args.rows.now.items c.args.at r.2 mid c.in_ok-key.ensures.1 c.row_at.result.now there in
    (r.0.workers, subst (λ (row : Row). IsJob graphs.graphs r.0.workers row.job) same (job_so graphs r.0 r.1 c.args.rows.now.items c.args.at r.2))

pub child_of-requires-clause-call : goal.child_of-requires-clause-call
child_of-requires-clause-call c =
    let r = c.requires in
    let mid = c.vacant_key.new.rows.items in
    let graphs = c.args.graphs.now in
    let there = sym (ap (λ (rs : List (Option Row)). row_at rs c.args.at.row) c.as_slice.ensures.value) ∙ c.row_at.ensures in
    let same = mid_same graphs r.0 r.1 c.args.rows.now.items c.args.at r.2 mid c.in_ok-key.ensures.1 c.row_at.result.now there in
    (r.2.firing, subst (λ (row : Row). TaskIs graphs.graphs row c.args.at.item r.2.firing) same r.2.task_is, r.2.fit)

pub open_in-requires-clause-inside : goal.open_in-requires-clause-inside
open_in-requires-clause-inside c =
    let r = c.requires in
    let graphs = c.args.graphs.now in
    let rows = c.args.rows.now.items in
    let mid = c.vacant_key.new.rows.items in
    let slot = c.index_mut.result.now in
    slot_so graphs r.0 r.1 rows c.args.at r.2 mid c.in_ok-key.ensures.1 (λ row. c.args.at.item < length row.job.marks.items) slot c.index_mut.ensures.value
    (item_so graphs r.0 r.1 rows c.args.at r.2 mid c.in_ok-key.ensures.1 (lawful c.rules_are_lawful.ensures graphs rows r.0 r.1 r.2.so))

pub open_in-requires-clause-free : goal.open_in-requires-clause-free
open_in-requires-clause-free c =
    let r = c.requires in
    let graphs = c.args.graphs.now in
    let rows = c.args.rows.now.items in
    let mid = c.vacant_key.new.rows.items in
    let slot = c.index_mut.result.now in
    slot_so graphs r.0 r.1 rows c.args.at r.2 mid c.in_ok-key.ensures.1 (λ row. mark_at row.job.marks.items c.args.at.item ≡ Free) slot c.index_mut.ensures.value r.2.free

pub open_in-requires-clause-call : goal.open_in-requires-clause-call
open_in-requires-clause-call c =
    let r = c.requires in
    let graphs = c.args.graphs.now in
    let rows = c.args.rows.now.items in
    let mid = c.vacant_key.new.rows.items in
    let slot = c.index_mut.result.now in
    let called = c.in_ok-child.child.called.value in
    let there = sym (ap (λ (rs : List (Option Row)). row_at rs c.args.at.row) c.as_slice.ensures.value) ∙ c.row_at.ensures in
    let same = mid_same graphs r.0 r.1 rows c.args.at r.2 mid c.in_ok-key.ensures.1 c.row_at.result.now there in
    slot_so graphs r.0 r.1 rows c.args.at r.2 mid c.in_ok-key.ensures.1
    (λ row. (gs : List Graph) × (workers : ℕ) × IsJob gs workers row.job × (rule gs row.job.firing (answers row.job.marks.items) c.args.at.item ≡ Some (Call called))) slot c.index_mut.ensures.value (
      graphs.graphs,
      r.0.workers,
      job_so graphs r.0 r.1 rows c.args.at r.2,
      subst (λ (row : Row). TaskIs graphs.graphs row c.args.at.item called) (sym same) c.in_ok-child.ensures.task_is,
    )

pub returns : goal.returns
returns c =
    let r = c.requires in
    let graphs = c.args.graphs.now in
    let rows = c.args.rows.now.items in
    let mid = c.vacant_key.new.rows.items in
    let slot = c.index_mut.result.now in
    let l = c.in_ok-key.key in
    let child = c.in_ok-child.child in
    let vacant = c.in_ok-key.ensures.0 in
    let same = c.in_ok-key.ensures.1 in
    let upper = c.row_at.result.now in
    let here : row_at mid c.args.at.row ≡ Some upper = sym (ap (λ (rs : List (Option Row)). row_at rs c.args.at.row) c.as_slice.ensures.value) ∙ c.row_at.ensures in
    let low = mid_inside graphs r.0 r.1 rows c.args.at r.2 mid same in
    let m : IsMarkedSlot c.args.at.item (Open child.called.value) upper c.open_in.new.slot =
    subst (λ (o : Option Row). MarksSlot c.args.at.item (Open child.called.value) o c.open_in.new.slot) (slot_is mid c.args.at.row slot low c.index_mut.ensures.value ∙ here) c.open_in.ensures in
    subst (λ (o : Option Row). OpensChild graphs c.args.at rows l (set (set mid c.args.at.row o) l (Some child.row))) (sym m.is)
    (opens_by graphs c.args.at rows mid l same vacant.inside vacant.none upper here child c.in_ok-child.ensures m.after m.marks)
