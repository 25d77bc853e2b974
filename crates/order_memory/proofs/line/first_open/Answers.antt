use Rattle.std.proofs.Common.{◌≡◌, length, arith}
use Rattle.worker_mapping.proofs.Places.{place_here, place_not_here}
use Rattle.order_memory.proofs.OpenSets.{inserted}
use Rattle.order_memory.proofs.line.first_open.Goals as goal
use Rattle.order_memory.proofs.line.first_open.Goals.{then-count-eq0+in_ok-insert, else-count-eq0}

pub loop-node-preserved : goal.loop-node-preserved
loop-node-preserved c =
    elim c.if-count-eq0.branch [
      | then-count-eq0+in_ok-insert w ↦ rw w.open_nodes-is
          (λ n.
          let now = inserted c.loop-node.open_nodes w.insert.new.self c.loop-node.node w.in_ok-insert.ensures.updates n in
          let here = place_here c.args.waiting.now c.loop-node.open_nodes.keys c.loop-node.node c.loop-node.invariant w.if-count-eq0.true n in
          ((λ at. here.0 (now.0 at)), (λ is. now.1 (here.1 is))))
      | else-count-eq0 w ↦ rw w.open_nodes-is (place_not_here c.args.waiting.now c.loop-node.open_nodes.keys c.loop-node.node c.loop-node.invariant (λ none. w.if-count-eq0.false none))
    ]

pub returns : goal.returns
returns c =
    let end : c.loop-node.node ≡ length c.args.waiting.now = (let last = c.loop-node.auto.node-end in omega arith) in
    λ n. rw end at (c.loop-node.invariant n)
