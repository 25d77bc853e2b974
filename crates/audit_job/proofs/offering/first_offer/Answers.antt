use Rattle.std.proofs.Common.{length, sym, subst}
use Rattle.pisdf_model.specs.declared.graph.Graphs.{Graphs}
use Rattle.audit_job.specs.Offering.{IsFirstOf, IsOfferedIn, offer_at}
use Rattle.audit_job.proofs.Asking.{asked_so}
use Rattle.audit_job.proofs.offering.first_offer.Goals as goal

pub returns : goal.returns
returns c = λ key m place same is.
    let job = c.args.job.now in
    let P : Graphs → Type 0 = λ all. IsFirstOf (IsOfferedIn all.graphs c.args.calls job) (offer_at job c.args.worker) job.candidates.items (length job.candidates.items) c.first_candidate.result in
    asked_so key m place job is c.args.worker c.args.calls c.first_candidate.result (subst P (sym same) c.first_candidate.ensures)
