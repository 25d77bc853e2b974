use Rattle.std.proofs.Common.{◌+◌, ◌<◌, ℕ, sym, set, length, get_or, arith}
use Rattle.std.proofs.lemmas.List.{get_or-set_other, get_or_read, length-set}
use Rattle.sdf_level.specs.declared.single_rate.Edge.{Edge}
use Rattle.worker_mapping.proofs.CostsSoFar.{AreCosts-more, cost-fits}
use Rattle.worker_mapping.proofs.costs.node_costs.Goals as goal

pub overflow_add-index_mut : goal.overflow_add-index_mut
overflow_add-index_mut c =
    let none : Edge = record { tail = 0; tail_port = 0; head = 0; head_port = 0; size = 0 } in
    let edges = c.args.edges.now in
    let i : ℕ = c.loop-edge.edge-index in
    let inside : i < length edges = c.loop-edge-test.true in
    let below = (c.requires.ends i none inside).0 in
    let long = c.loop-edge.invariant.one_each in
    let fits = cost-fits c.args.nodes edges c.loop-edge.costs.items i none (get_or edges i none).tail inside below c.loop-edge.invariant in
    let value = get_or_read c.loop-edge.costs.items (get_or edges i none).tail c.index_mut.result.now (omega arith) c.index_mut.ensures.value 0 in
    omega arith

pub overflow_add-index_mut-in-loop-edge : goal.overflow_add-index_mut-in-loop-edge
overflow_add-index_mut-in-loop-edge c =
    let none : Edge = record { tail = 0; tail_port = 0; head = 0; head_port = 0; size = 0 } in
    let edges = c.args.edges.now in
    let i : ℕ = c.loop-edge.edge-index in
    let inside : i < length edges = c.loop-edge-test.true in
    let below = (c.requires.ends i none inside).1 in
    let long = c.loop-edge.invariant.one_each in
    let written = length-set c.loop-edge.costs.items (get_or edges i none).tail (c.index_mut.result.now + (get_or edges i none).size) in
    let fits = cost-fits c.args.nodes edges c.loop-edge.costs.items i none (get_or edges i none).head inside below c.loop-edge.invariant in
    let other = get_or-set_other c.loop-edge.costs.items (get_or edges i none).tail (get_or edges i none).head (c.index_mut.result.now + (get_or edges i none).size) 0 (λ e. c.requires.two_ends i none inside (sym e)) in
    let value = get_or_read (set c.loop-edge.costs.items (get_or edges i none).tail (c.index_mut.result.now + (get_or edges i none).size)) (get_or edges i none).head c.index_mut-in-loop-edge.result.now (omega arith) c.index_mut-in-loop-edge.ensures.value 0 in
    omega arith

pub loop-edge-preserved : goal.loop-edge-preserved
loop-edge-preserved c =
    let none : Edge = record { tail = 0; tail_port = 0; head = 0; head_port = 0; size = 0 } in
    let edges = c.args.edges.now in
    let i : ℕ = c.loop-edge.edge-index in
    let inside : i < length edges = c.loop-edge-test.true in
    let tail = (c.requires.ends i none inside).0 in
    let head = (c.requires.ends i none inside).1 in
    let long = c.loop-edge.invariant.one_each in
    let written = length-set c.loop-edge.costs.items (get_or edges i none).tail (c.index_mut.result.now + (get_or edges i none).size) in
    let first = get_or_read c.loop-edge.costs.items (get_or edges i none).tail c.index_mut.result.now (omega arith) c.index_mut.ensures.value 0 in
    let second = get_or_read (set c.loop-edge.costs.items (get_or edges i none).tail (c.index_mut.result.now + (get_or edges i none).size)) (get_or edges i none).head c.index_mut-in-loop-edge.result.now (omega arith) c.index_mut-in-loop-edge.ensures.value 0 in
    AreCosts-more c.args.nodes edges c.loop-edge.costs.items i none _ _ inside tail head (c.requires.two_ends i none inside) (omega arith) (omega arith) c.loop-edge.invariant
