use Rattle.std.proofs.Common.{◌≡◌, Option, Some, None, sym, ◌∙◌, subst}
use Rattle.pisdf_model.specs.declared.graph.Graphs.{Graphs}
use Rattle.audit_job.specs.Jobs.{IsJob}
use Rattle.journal_audit.specs.Asking.{IsFirstOf}
use Rattle.journal_audit.specs.Table.{row_at}
use Rattle.journal_audit.specs.declared.table.Row.{Row}
use Rattle.journal_audit.proofs.Rows.{slot_is}
use Rattle.journal_audit.proofs.asking.asked_at.Goals as goal

pub first_offer-requires : goal.first_offer-requires
first_offer-requires c =
    let s = c.requires.stands in
    let rows = c.args.rows.now in
    let row = c.in-Some.row in
    let here : row_at rows c.args.key ≡ Some row = sym (slot_is rows c.args.key c.index-rows-key.result c.requires.inside c.index-rows-key.is) ∙ c.in-Some.is in
    (s.0.workers, subst (λ (gs : Graphs). IsJob gs.graphs s.0.workers row.job) s.2.graphs_are (s.2.jobs c.args.key row here))

pub returns-in-None-first_offer : goal.returns-in-None-first_offer
returns-in-None-first_offer c = λ board m so.
    let rows = c.args.rows.now in
    let row = c.in-Some.row in
    let here : row_at rows c.args.key ≡ Some row = sym (slot_is rows c.args.key c.index-rows-key.result c.requires.inside c.index-rows-key.is) ∙ c.in-Some.is in
    subst (λ (o : Option Row). IsFirstOf board m c.args.worker c.args.calls c.args.key o None) (sym here)
    (c.in-None-first_offer.ensures board m row.place so.graphs_are (so.jobs c.args.key row here))
