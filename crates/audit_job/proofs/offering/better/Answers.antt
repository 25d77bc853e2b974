use Rattle.std.proofs.Common.{◌≡◌, ℕ, false, true, sym, ap, ◌∙◌, subst}
use Rattle.audit_job.specs.Offering.{IsOfferedIn, leads, offer_at, offer_of}
use Rattle.audit_job.proofs.Asking.{item_is}
use Rattle.audit_job.proofs.OffersInTurn.{nothing_more, passed_by, taken}
use Rattle.audit_job.proofs.offering.better.Goals as goal

pub returns-then-not-leads : goal.returns-then-not-leads
returns-then-not-leads c = λ items n at first.
    let job = c.args.job.now in
    let P : ℕ → Type 0 = λ i. IsOfferedIn c.args.graphs.now.graphs c.args.calls job i in
    let offers = λ (i : ℕ). offer_at job c.args.worker i in
    let own = c.leads.ensures in
    let no = c.if-not-leads.true in
    let after : leads (offer_of c.offer_of-next.result) c.args.best ≡ false = cc in
    passed_by P offers (item_is job c.args.worker) items n c.offer_of-next.result (c.offer_of-next.ensures ∙ ap offers (sym at)) c.args.best first after

pub returns-then-not-is_offered : goal.returns-then-not-is_offered
returns-then-not-is_offered c = λ items n at first.
    let job = c.args.job.now in
    let P : ℕ → Type 0 = λ i. IsOfferedIn c.args.graphs.now.graphs c.args.calls job i in
    let offers = λ (i : ℕ). offer_at job c.args.worker i in
    nothing_more P offers (item_is job c.args.worker) items n c.args.best first (λ holds. let yes = c.is_offered.ensures.1 (subst P at holds) in let no = c.if-not-is_offered.true in cc)

pub returns : goal.returns
returns c = λ items n at first.
    let job = c.args.job.now in
    let P : ℕ → Type 0 = λ i. IsOfferedIn c.args.graphs.now.graphs c.args.calls job i in
    let offers = λ (i : ℕ). offer_at job c.args.worker i in
    let own = c.leads.ensures in
    let yes = c.if-not-leads.false in
    let before : leads (offer_of c.offer_of-next.result) c.args.best ≡ true = cc in
    let offered = c.if-not-is_offered.false in
    let is : c.is_offered.result ≡ true = cc in
    taken P offers (item_is job c.args.worker) items n c.offer_of-next.result (c.offer_of-next.ensures ∙ ap offers (sym at)) (subst P (sym at) (c.is_offered.ensures.0 is)) c.args.best first before
