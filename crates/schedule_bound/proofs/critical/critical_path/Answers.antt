use Rattle.std.proofs.Common.{◌≡◌, ◌<◌, None, length, arith}
use Rattle.std.proofs.lemmas.List.{get_or_read}
use Rattle.worker_mapping.specs.Graph.{graph_of}
use Rattle.schedule_bound.specs.Critical.{IsLeastNext}
use Rattle.schedule_bound.proofs.Walked.{way_start, way_more, way_end, way_shrinks}
use Rattle.schedule_bound.proofs.critical.critical_path.Goals as goal

pub loop-left-init : goal.loop-left-init
loop-left-init c =
    let graph = graph_of c.args.nodes c.args.edges.now c.args.costs.now in
    rw (c.new-path.ensures.items, c.greatest_of-left.ensures)
    (way_start graph c.args.priority.now c.requires.edges c.requires.priority c.requires.heaviest c.first_place-at.result (rw c.greatest_of-left.ensures at c.first_place-at.ensures))

pub loop-left-smaller : goal.loop-left-smaller
loop-left-smaller c =
    let way = rw c.in-Some.is at c.loop-left.invariant in
    let n = c.in-Some.node in
    let on = way.goes_on c.loop-left-test.true in
    let there : n < length c.in_ok-next.next.items = (let l = c.in_ok-next.ensures.one_each in let b = on.0 in omega arith) in
    let read : c.index-at.result.now ≡ _ = get_or_read c.in_ok-next.next.items n c.index-at.result.now there c.index-at.ensures None in
    let least : IsLeastNext c.args.edges.now c.args.costs.now c.args.priority.now n c.index-at.result.now = rw read (c.in_ok-next.ensures.each n on.0) in
    rw c.in-Some.is (way_shrinks c.args.edges.now c.args._ranks.now c.args.costs.now c.args.priority.now n c.index-at.result.now c.requires.rising least)

pub loop-left-preserved : goal.loop-left-preserved
loop-left-preserved c =
    let graph = graph_of c.args.nodes c.args.edges.now c.args.costs.now in
    let way = rw c.in-Some.is at c.loop-left.invariant in
    let n = c.in-Some.node in
    let on = way.goes_on c.loop-left-test.true in
    let there : n < length c.in_ok-next.next.items = (let l = c.in_ok-next.ensures.one_each in let b = on.0 in omega arith) in
    let read : c.index-at.result.now ≡ _ = get_or_read c.in_ok-next.next.items n c.index-at.result.now there c.index-at.ensures None in
    let least : IsLeastNext c.args.edges.now c.args.costs.now c.args.priority.now n c.index-at.result.now = rw read (c.in_ok-next.ensures.each n on.0) in
    rw c.in_ok-push-in-Some.ensures.items (way_more graph c.args.priority.now c.requires.edges c.requires.priority c.requires.heaviest c.loop-left.path.items c.loop-left.left n c.index-at.result.now c.loop-left-test.true way least)

pub returns : goal.returns
returns c =
    let graph = graph_of c.args.nodes c.args.edges.now c.args.costs.now in
    way_end graph c.args.priority.now c.requires.edges c.requires.priority c.requires.heaviest c.loop-left.path.items c.loop-left.left c.loop-left.at (let k = c.loop-left-test.false in omega arith) c.loop-left.invariant
