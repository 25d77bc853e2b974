use Rattle.std.proofs.Common.{◌≡◌, ℕ, ◌+◌, Option, None, min, get_or, slice_index, ap, subst, arith}
use Rattle.std.specs.Prelude.{MatchOption}
use Rattle.std.proofs.lemmas.List.{get_or_read}
use Rattle.schedule_bound.proofs.Nexts.{nexts_same, nexts_less}
use Rattle.schedule_bound.proofs.critical.next_nodes.Goals as goal
use Rattle.schedule_bound.proofs.critical.next_nodes.Goals.{then-priority-t, else-priority-t}

pub loop-edge-preserved : goal.loop-edge-preserved
loop-edge-preserved c =
    let i = c.loop-edge.edge-index in
    let edges = c.args.edges.now in
    let e : ℕ × ℕ = get_or edges i (0, 0) in
    let there = c.requires.edges i (0, 0) c.loop-edge-test.true in
    elim c.if-priority-t.branch [
      | then-priority-t w ↦
          let least = c.requires.heavy e.0 there.0 in
          let goes : slice_index c.args.priority.now e.0 ≡ slice_index c.args.costs.now e.0 + slice_index c.args.priority.now e.1 = omega (arith, w.if-priority-t.true) in
          rw (ap (λ v. v.items) w.next-is) (nexts_less c.args.nodes edges c.args.costs.now c.args.priority.now c.loop-edge.next.items i (0, 0) c.loop-edge-test.true c.loop-edge.invariant w.lesser.result there.0 goes
          (subst (λ (o : Option ℕ). MatchOption o (w.lesser.result ≡ e.1) (λ m. w.lesser.result ≡ min m e.1)) (get_or_read c.loop-edge.next.items e.0 w.index.result.now (let l = c.loop-edge.invariant.one_each in let t = there.0 in omega arith) w.index.ensures None) w.lesser.ensures))
      | else-priority-t w ↦
          rw (ap (λ v. v.items) w.next-is) (nexts_same c.args.nodes edges c.args.costs.now c.args.priority.now c.loop-edge.next.items i (0, 0) c.loop-edge-test.true c.loop-edge.invariant (λ goes. w.if-priority-t.false (omega arith)))
    ]
