use Rattle.std.proofs.Common.{◌≡◌, ◌<◌, Option, length, refl, sym, subst, arith}
use Rattle.nested_jobs.specs.Marks.{Busy, Free}
use Rattle.audit_job.specs.Marks.{mark_at}
use Rattle.journal_audit.specs.Slots.{InSlot, MarksSlot}
use Rattle.journal_audit.specs.declared.table.Row.{Row}
use Rattle.journal_audit.proofs.Rows.{slot_inside, slot_is}
use Rattle.journal_audit.proofs.replay.enter.Goals as goal

pub claim_in-requires-clause-inside : goal.claim_in-requires-clause-inside
claim_in-requires-clause-inside c =
    let rows = c.args.replay.now.rows.items in
    let k = c.args.run.row in
    let inside = slot_inside (λ (row : Row). c.args.run.item < length row.job.marks.items) rows k c.requires.inside in
    subst (InSlot (λ (row : Row). c.args.run.item < length row.job.marks.items)) (sym (slot_is rows k c.index_mut.result.now inside c.index_mut.ensures.value)) c.requires.inside

pub claim_in-requires-clause-free : goal.claim_in-requires-clause-free
claim_in-requires-clause-free c =
    let rows = c.args.replay.now.rows.items in
    let k = c.args.run.row in
    let inside = slot_inside (λ (row : Row). c.args.run.item < length row.job.marks.items) rows k c.requires.inside in
    subst (InSlot (λ (row : Row). mark_at row.job.marks.items c.args.run.item ≡ Free)) (sym (slot_is rows k c.index_mut.result.now inside c.index_mut.ensures.value)) c.requires.free

pub index_mut-requires : goal.index_mut-requires
index_mut-requires c =
    let inside = slot_inside (λ (row : Row). c.args.run.item < length row.job.marks.items) c.args.replay.now.rows.items c.args.run.row c.requires.inside in
    let o = c.args.replay.now.rows.ok.0 in
    omega arith

pub returns : goal.returns
returns c =
    let rows = c.args.replay.now.rows.items in
    let k = c.args.run.row in
    let inside = slot_inside (λ (row : Row). c.args.run.item < length row.job.marks.items) rows k c.requires.inside in
    record {
      slot = c.claim_in.new.slot;
      marks = subst (λ (o : Option Row). MarksSlot c.args.run.item Busy o c.claim_in.new.slot) (slot_is rows k c.index_mut.result.now inside c.index_mut.ensures.value) c.claim_in.ensures;
      rows_are = refl;
      running_are = refl;
      workers_are = refl;
      end_is = refl;
    }
