use Rattle.std.proofs.Common.{[], ◌∷◌, map, ap, ◌∙◌, subst}
use Rattle.std.proofs.lemmas.List.{map-append}
use Rattle.split_block.specs.View.{lease_place}
use Rattle.kernel_gate.specs.Leased.{AllWhole}
use Rattle.kernel_gate.proofs.Lists.{whole_less}
use Rattle.kernel_gate.proofs.leases.spend.Goals as goal

pub into_vec-requires : goal.into_vec-requires
into_vec-requires c =
    let left = c.pop.new.self.items in
    let lease = c.in-Some.lease in
    (whole_less (map lease_place left) (lease_place lease) (subst AllWhole (ap (λ l. map lease_place l) c.in-Some.ensures.items ∙ map-append lease_place left (lease ∷ [])) c.loop-lease.invariant)).1

pub loop-lease-preserved : goal.loop-lease-preserved
loop-lease-preserved c =
    let left = c.pop.new.self.items in
    let lease = c.in-Some.lease in
    (whole_less (map lease_place left) (lease_place lease) (subst AllWhole (ap (λ l. map lease_place l) c.in-Some.ensures.items ∙ map-append lease_place left (lease ∷ [])) c.loop-lease.invariant)).0
