use Rattle.std.proofs.Common.{◌≡◌, ◌<◌, ℕ, length, sym, subst, arith}
use Rattle.std.proofs.lemmas.List.{get_or_read}
use Rattle.audit_job.specs.Offering.{IsFirstOf, IsOfferedIn, offer_at}
use Rattle.audit_job.proofs.offering.first_candidate.Goals as goal

pub loop-place-preserved : goal.loop-place-preserved
loop-place-preserved c =
    let job = c.args.job.now in
    let within : c.loop-place.place < length job.candidates.items = omega (arith, job.candidates.ok.0) in
    c.better-best.ensures job.candidates.items c.loop-place.place (sym (get_or_read job.candidates.items c.loop-place.place c.index.result.now within c.index.ensures 0)) c.loop-place.invariant

pub returns : goal.returns
returns c =
    let job = c.args.job.now in
    let all : c.loop-place.place ≡ length job.candidates.items = omega (arith, job.candidates.ok.0) in
    subst (λ (n : ℕ). IsFirstOf (IsOfferedIn c.args.graphs.now.graphs c.args.calls job) (offer_at job c.args.worker) job.candidates.items n c.loop-place.best) all c.loop-place.invariant
