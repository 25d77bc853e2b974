use Rattle.std.proofs.Common.{◌≡◌, ◌+◌, length, [], ◌∷◌, refl, sym, ◌∙◌, subst, arith}
use Rattle.split_block.specs.View.{IsWhole}
use Rattle.one_job.specs.Places.{buffer_at}
use Rattle.job_compiler.proofs.RowStarts.{port_is}
use Rattle.one_job.proofs.TakingSteps.{HasTaken, can_take, takes_none, takes_one, takes_first, takes_all}
use Rattle.one_job.proofs.leases.take_ports.Goals as goal
use Rattle.one_job.proofs.leases.take_ports.Goals.{in-Some, in-None}

pub loop-port-init : goal.loop-port-init
loop-port-init c = record {
  so_far = takes_first (buffer_at c.args.edges.now c.args.offsets.now) (length c.args.edges.now) c.args.ports.now c.args.pool.now c.args.leases.now.items c.requires.can;
  room = omega (arith, c.requires.room);
  capacity = refl;
}

pub take_buffer-lease-requires : goal.take_buffer-lease-requires
take_buffer-lease-requires c =
    let open_now = can_take _ _ _ _ _ _ _ _ c.loop-port.invariant.so_far c.loop-port-test.true c.in-Some.edge (port_is c.args.ports.now c.loop-port.port-index c.port-item.result c.loop-port-test.true c.port-item.is ∙ (sym c.edge.ensures ∙ c.in-Some.is)) in
    record { inside = open_now.0; placed = c.requires.placed; «open» = open_now.1 }

pub loop-port-preserved : goal.loop-port-preserved
loop-port-preserved c =
    let so_far = c.loop-port.invariant.so_far in
    let place = buffer_at c.args.edges.now c.args.offsets.now in
    let found = port_is c.args.ports.now c.loop-port.port-index c.port-item.result c.loop-port-test.true c.port-item.is ∙ sym c.edge.ensures in
    record {
      so_far = elim c.match-edge.branch [
        | in-Some w ↦ subst (λ p. HasTaken place (length c.args.edges.now) c.args.ports.now c.args.pool.now c.args.leases.now.items (c.loop-port.port-index + 1) p c.push_reserved.new.self.items) (sym (w.pool-is ∙ w.take_buffer-lease.ensures.pool))
            (subst (HasTaken place (length c.args.edges.now) c.args.ports.now c.args.pool.now c.args.leases.now.items (c.loop-port.port-index + 1) (record c.loop-port.pool { out = place w.in-Some.edge ∷ c.loop-port.pool.out })) (sym c.push_reserved.ensures.items)
            (takes_one _ _ _ _ _ _ _ _ so_far c.loop-port-test.true w.in-Some.edge c.match-edge.lease (found ∙ w.in-Some.is) (w.lease-is ∙ w.take_buffer-lease.ensures.lease)))
        | in-None w ↦ subst (λ p. HasTaken place (length c.args.edges.now) c.args.ports.now c.args.pool.now c.args.leases.now.items (c.loop-port.port-index + 1) p c.push_reserved.new.self.items) (sym w.pool-is)
            (subst (HasTaken place (length c.args.edges.now) c.args.ports.now c.args.pool.now c.args.leases.now.items (c.loop-port.port-index + 1) c.loop-port.pool) (sym c.push_reserved.ensures.items)
            (takes_none _ _ _ _ _ _ _ _ so_far c.loop-port-test.true c.match-edge.lease (found ∙ w.in-None.is) (subst (λ l. IsWhole l × (l.cells ≡ [])) (sym w.lease-is) (w.from_vec-lease.ensures.whole, w.from_vec-lease.ensures.cells ∙ w.new.ensures.items))))
      ];
      room = omega (arith, c.loop-port.invariant.room, c.push_reserved.ensures.len, c.push_reserved.ensures.capacity);
      capacity = c.push_reserved.ensures.capacity ∙ c.loop-port.invariant.capacity;
    }

pub returns : goal.returns
returns c =
    let all = takes_all _ _ _ _ _ c.loop-port.port-index _ _ (omega arith) c.loop-port.invariant.so_far in
    record { leases = all.0; capacity = c.loop-port.invariant.capacity; pool = all.1 }
