use Rattle.std.proofs.Common.{◌≡◌, ℕ, ◌<◌, List, [], ◌∷◌, ◌++◌, map, get_or, take, length, arith, sym, ◌∙◌, ap, Vec, Global}
use Rattle.std.proofs.lemmas.List.{take_more, map-set, get_or-map, length-map}
use Rattle.worker_mapping.proofs.Adjacent.{AreAfter-more}
use Rattle.worker_mapping.proofs.neighbours.nodes_after.Goals as goal

pub loop-edge-preserved : goal.loop-edge-preserved
loop-edge-preserved c =
    let lists : List (Vec ℕ Global) = c.loop-edge.after.items in
    let items = λ (v : Vec ℕ Global). v.items in
    let e : ℕ × ℕ = get_or c.args.edges.now c.loop-edge.edge-index (0, 0) in
    let there : (e.0 < c.args.nodes) × (e.1 < c.args.nodes) = c.requires c.loop-edge.edge-index (0, 0) c.loop-edge-test.true in
    let inside : e.0 < length lists = (let one_each = c.loop-edge.invariant.one_each in let m = length-map lists items in omega arith) in
    let was : get_or (map items lists) e.0 [] ≡ c.index_mut.result.now.items = get_or-map items lists e.0 c.index_mut.result.now [] inside ∙ ap items (sym c.index_mut.ensures.value) in
    let now : c.push.new.self.items ≡ get_or (map items lists) e.0 [] ++ e.1 ∷ [] = c.in_ok-push.ensures.items ∙ ap (λ (xs : List ℕ). xs ++ e.1 ∷ []) (sym was) in
    rw (take_more c.args.edges.now c.loop-edge.edge-index (0, 0) c.loop-edge-test.true, map-set items lists e.0 c.push.new.self, now)
    (AreAfter-more c.args.nodes (take c.loop-edge.edge-index c.args.edges.now) e (map items lists) c.loop-edge.invariant there.0)
