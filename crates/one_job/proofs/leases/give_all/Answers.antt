use Rattle.std.proofs.Common.{sym, ap, ◌∙◌, subst}
use Rattle.one_job.specs.Taking.{AreDue, with_leases}
use Rattle.one_job.proofs.TakingSteps.{with_leases-snoc, AreDue-snoc}
use Rattle.one_job.proofs.leases.give_all.Goals as goal

pub give_one-requires : goal.give_one-requires
give_one-requires c =
    let left = c.pop.new.self.items in
    (AreDue-snoc left c.in-Some.lease c.loop-lease.pool (subst (λ l. AreDue l c.loop-lease.pool) c.in-Some.ensures.items c.loop-lease.invariant.due)).1

pub loop-lease-preserved : goal.loop-lease-preserved
loop-lease-preserved c =
    let left = c.pop.new.self.items in
    let lease = c.in-Some.lease in
    let pool = c.loop-lease.pool in
    let steps = c.in-Some.ensures.items in record {
      whole = ap (with_leases left) c.give_one.ensures ∙ (sym (with_leases-snoc left lease pool) ∙ (ap (λ l. with_leases l pool) (sym steps) ∙ c.loop-lease.invariant.whole));
      due = subst (AreDue left) (sym c.give_one.ensures) (AreDue-snoc left lease pool (subst (λ l. AreDue l pool) steps c.loop-lease.invariant.due)).0;
      capacity = c.pop.ensures.capacity ∙ c.loop-lease.invariant.capacity;
    }
