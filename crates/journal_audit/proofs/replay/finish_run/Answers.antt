use Rattle.std.proofs.Common.{◌≡◌, ℕ, List, Option, Some, set, ◌∙◌, subst}
use Rattle.kernel_gate.specs.Signed.{unnamed}
use Rattle.job_rules.specs.Items.{rule}
use Rattle.job_rules.specs.Words as words
use Rattle.nested_jobs.specs.Marks.{Busy}
use Rattle.nested_jobs.specs.Rules.{Work}
use Rattle.audit_job.specs.Answering.{FitsWork}
use Rattle.audit_job.specs.Marks.{answers, mark_at}
use Rattle.board_rules.specs.Board.{Held}
use Rattle.board_rules.specs.Entries.{Step}
use Rattle.board_rules.specs.Keys.{Key}
use Rattle.audit_job.specs.declared.answer.Answer.{Answer as Own}
use Rattle.journal_audit.specs.Closing.{ClosesFrom, ClosesTo, Finishing}
use Rattle.journal_audit.specs.Replays.{FinishesRun, RunsIt}
use Rattle.journal_audit.specs.Slots.{FinishesRow, FinishesSlot}
use Rattle.journal_audit.specs.declared.table.Row.{Row}
use Rattle.journal_audit.proofs.Finishes.{busy, closes_from, finishing, fits_work, here, inside, row, work_of}
use Rattle.journal_audit.proofs.Openings.{if_ok}
use Rattle.journal_audit.proofs.Rows.{in_slot, slot_is}
use Rattle.journal_audit.proofs.replay.finish_run.Goals as goal

pub finish_in-requires-clause-busy : goal.finish_in-requires-clause-busy
finish_in-requires-clause-busy g c =
    let s = c.requires in
    let graphs = c.args.graphs.now in
    let signatures = unnamed (g.K.Gate.kernels c.args.gate.now) in
    let rows = c.args.rows.now.items in
    let held = c.boards_keep.ensures.held in
    let fits = c.work_fits.ensures in
    let own = row held fits graphs signatures c.args.workers rows c.args.run s.0 s.1 s.2 s.3 s.4 in
    let is = here held fits graphs signatures c.args.workers rows c.args.run s.0 s.1 s.2 s.3 s.4 in
    let low = inside held fits graphs signatures c.args.workers rows c.args.run s.0 s.1 s.2 s.3 s.4 in
    in_slot (λ x. mark_at x.job.marks.items c.args.run.item ≡ Busy) c.index_mut.result.now own (slot_is rows c.args.run.row c.index_mut.result.now low c.index_mut.ensures.value ∙ is)
    (busy held fits graphs signatures c.args.workers rows c.args.run s.0 s.1 s.2 s.3 s.4)

pub finish_in-requires-clause-work : goal.finish_in-requires-clause-work
finish_in-requires-clause-work g c =
    let s = c.requires in
    let graphs = c.args.graphs.now in
    let signatures = unnamed (g.K.Gate.kernels c.args.gate.now) in
    let rows = c.args.rows.now.items in
    let held = c.boards_keep.ensures.held in
    let fits = c.work_fits.ensures in
    let own = row held fits graphs signatures c.args.workers rows c.args.run s.0 s.1 s.2 s.3 s.4 in
    let is = here held fits graphs signatures c.args.workers rows c.args.run s.0 s.1 s.2 s.3 s.4 in
    let low = inside held fits graphs signatures c.args.workers rows c.args.run s.0 s.1 s.2 s.3 s.4 in
    in_slot (λ x. (work : words.Work) × (rule graphs.graphs x.job.firing (answers x.job.marks.items) c.args.run.item ≡ Some (Work work))) c.index_mut.result.now own (slot_is rows c.args.run.row c.index_mut.result.now low c.index_mut.ensures.value ∙ is)
    (work_of held fits graphs signatures c.args.workers rows c.args.run s.0 s.1 s.2 s.3 s.4)

pub finish_in-requires-clause-fits : goal.finish_in-requires-clause-fits
finish_in-requires-clause-fits g c =
    let s = c.requires in
    let graphs = c.args.graphs.now in
    let signatures = unnamed (g.K.Gate.kernels c.args.gate.now) in
    let rows = c.args.rows.now.items in
    let held = c.boards_keep.ensures.held in
    let fits = c.work_fits.ensures in
    let own = row held fits graphs signatures c.args.workers rows c.args.run s.0 s.1 s.2 s.3 s.4 in
    let is = here held fits graphs signatures c.args.workers rows c.args.run s.0 s.1 s.2 s.3 s.4 in
    let low = inside held fits graphs signatures c.args.workers rows c.args.run s.0 s.1 s.2 s.3 s.4 in
    in_slot (λ x. (work : words.Work) → rule graphs.graphs x.job.firing (answers x.job.marks.items) c.args.run.item ≡ Some (Work work) → FitsWork signatures work) c.index_mut.result.now own (slot_is rows c.args.run.row c.index_mut.result.now low c.index_mut.ensures.value ∙ is)
    (fits_work held fits graphs signatures c.args.workers rows c.args.run s.0 s.1 s.2 s.3 s.4)

pub close-requires : goal.close-requires
close-requires g c =
    let s = c.requires in
    let graphs = c.args.graphs.now in
    let signatures = unnamed (g.K.Gate.kernels c.args.gate.now) in
    let rows = c.args.rows.now.items in
    let held = c.boards_keep.ensures.held in
    let fits = c.work_fits.ensures in
    let begin = c.boards_keep.ensures.finish in
    let own = row held fits graphs signatures c.args.workers rows c.args.run s.0 s.1 s.2 s.3 s.4 in
    let is = here held fits graphs signatures c.args.workers rows c.args.run s.0 s.1 s.2 s.3 s.4 in
    let low = inside held fits graphs signatures c.args.workers rows c.args.run s.0 s.1 s.2 s.3 s.4 in
    let f : FinishesRow graphs.graphs c.args.workers c.args.run.item own c.finish_in.new.slot =
    subst (λ (o : Option Row). FinishesSlot graphs.graphs c.args.workers c.args.run.item o c.finish_in.new.slot) (slot_is rows c.args.run.row c.index_mut.result.now low c.index_mut.ensures.value ∙ is) c.in_ok-finish_in.ensures in
    (finishing held fits graphs signatures c.args.workers rows c.args.run s.0 s.1 s.2 s.3 s.4 begin c.finish_in.new.slot f, closes_from held fits graphs signatures c.args.workers rows c.args.run s.0 s.1 s.2 s.3 s.4 begin c.finish_in.new.slot f)

pub returns : goal.returns
returns g c =
    let graphs = c.args.graphs.now in
    let signatures = unnamed (g.K.Gate.kernels c.args.gate.now) in
    let rows = c.args.rows.now.items in
    let held = c.boards_keep.ensures.held in
    let fits = c.work_fits.ensures in
    let begin = c.boards_keep.ensures.finish in
    let mid = set rows c.args.run.row c.finish_in.new.slot in
    let end = c.close.new.rows.items in
    if_ok c.close.result
    (λ (e : Option Own). (f : Finishing) → ClosesFrom graphs mid c.args.run.row f → ClosesTo end f e)
    (λ (e : Option Own). (key : Key) (taken : List Step) (h : Held) (w : ℕ) → RunsIt graphs signatures c.args.workers rows c.args.run key taken h w → FinishesRun key taken h w end e)
    (λ e closes. λ key taken h w r.
    let own = row held fits graphs signatures c.args.workers rows c.args.run key taken h w r in
    let is = here held fits graphs signatures c.args.workers rows c.args.run key taken h w r in
    let low = inside held fits graphs signatures c.args.workers rows c.args.run key taken h w r in
    let f : FinishesRow graphs.graphs c.args.workers c.args.run.item own c.finish_in.new.slot =
    subst (λ (o : Option Row). FinishesSlot graphs.graphs c.args.workers c.args.run.item o c.finish_in.new.slot) (slot_is rows c.args.run.row c.index_mut.result.now low c.index_mut.ensures.value ∙ is) c.in_ok-finish_in.ensures in
    (f.finishes.answer, closes record { key = key; taken = taken; held = h; worker = w; answer = f.finishes.answer } (closes_from held fits graphs signatures c.args.workers rows c.args.run key taken h w r begin c.finish_in.new.slot f)))
    c.close.ensures
