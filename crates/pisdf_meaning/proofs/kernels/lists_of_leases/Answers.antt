use Rattle.std.proofs.Common.{[], ◌∷◌, ◌++◌, arith, ap, ◌∙◌, length}
use Rattle.std.proofs.lemmas.List.{length_push}
use Rattle.pisdf_meaning.proofs.Leases.{last_goes, last_whole}
use Rattle.pisdf_meaning.proofs.kernels.lists_of_leases.Goals as goal

pub into_vec-requires : goal.into_vec-requires
into_vec-requires c = (last_whole c.loop-lease.leases.items c.pop.new.self.items c.in-Some.lease c.in-Some.ensures.items c.loop-lease.invariant.whole).1

pub loop-lease-preserved : goal.loop-lease-preserved
loop-lease-preserved c =
    let now = c.push_reserved.ensures.items ∙ ap (λ x. c.loop-lease.lists.items ++ x ∷ []) (c.new.ensures ∙ c.into_vec.ensures) in
    let left = ap length c.in-Some.ensures.items in
    let one = length_push c.pop.new.self.items c.in-Some.lease in
    let more = ap length now in
    let same = length_push c.loop-lease.lists.items c.in-Some.lease.cells in
    record {
      whole = (last_whole c.loop-lease.leases.items c.pop.new.self.items c.in-Some.lease c.in-Some.ensures.items c.loop-lease.invariant.whole).0;
      cells = last_goes c.loop-lease.leases.items c.pop.new.self.items c.in-Some.lease c.loop-lease.lists.items c.push_reserved.new.self.items _ c.in-Some.ensures.items now c.loop-lease.invariant.cells;
      room = omega (arith, c.push_reserved.ensures.capacity);
    }
