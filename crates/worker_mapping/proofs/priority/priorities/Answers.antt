use Rattle.std.proofs.Common.{◌≡◌, ℕ, ◌<◌, ◌≤◌, [], ◌∷◌, ◌++◌, length, map, slice_index, arith, rules, ◌∙◌, Vec, Global}
use Rattle.std.proofs.lemmas.List.{nil_from_length, length-map}
use Rattle.std.proofs.lemmas.List.Elements.{All-from_recursion}
use Rattle.std.proofs.lemmas.Grind.{common_steps}
use Rattle.worker_mapping.specs.Graph.{CostedGraph, nodes_after, greatest}
use Rattle.worker_mapping.specs.Growing.{most_cost}
use Rattle.worker_mapping.proofs.Adjacent.{AreAfter-at}
use Rattle.worker_mapping.proofs.Priorities.{AreRanked, AreRanked-first, AreRanked-last, AreRanked-step, last_is, heads_inside, next_small}
use Rattle.worker_mapping.proofs.priority.priorities.Goals as goal

pub loop-rank-init : goal.loop-rank-init
loop-rank-init c = λ t r.
    let graph : CostedGraph = record { nodes = c.args.nodes; edges = c.args.edges.now; costs = c.args.costs.now } in
    AreRanked-first graph c.args.ranks.now t r c.in_ok-order.order.items c.in_ok-priority.priority.items c.requires.ranks c.in_ok-order.ensures (grind (arith, common_steps)) (λ n. grind (arith, common_steps))

pub bounds-after-n : goal.bounds-after-n
bounds-after-n c =
    let graph : CostedGraph = record { nodes = c.args.nodes; edges = c.args.edges.now; costs = c.args.costs.now } in
    let h : AreRanked graph c.args.ranks.now c.requires.edges c.requires.rising (c.pop.new.self.items ++ (c.in-Some._rank, c.in-Some.node) ∷ []) c.loop-rank.priority.items = rw c.in-Some.ensures.items at (c.loop-rank.invariant c.requires.edges c.requires.rising) in
    let there = last_is graph c.args.ranks.now c.requires.edges c.requires.rising c.pop.new.self.items (c.in-Some._rank, c.in-Some.node) c.loop-rank.priority.items h in
    let long = c.requires.after.one_each in
    let below = there.0 in
    let same = length-map c.args.after.now (λ (v : Vec ℕ Global). v.items) in
    omega arith

pub most_of-most-requires : goal.most_of-most-requires
most_of-most-requires c =
    let graph : CostedGraph = record { nodes = c.args.nodes; edges = c.args.edges.now; costs = c.args.costs.now } in
    let h : AreRanked graph c.args.ranks.now c.requires.edges c.requires.rising (c.pop.new.self.items ++ (c.in-Some._rank, c.in-Some.node) ∷ []) c.loop-rank.priority.items = rw c.in-Some.ensures.items at (c.loop-rank.invariant c.requires.edges c.requires.rising) in
    let there = last_is graph c.args.ranks.now c.requires.edges c.requires.rising c.pop.new.self.items (c.in-Some._rank, c.in-Some.node) c.loop-rank.priority.items h in
    let heads : c.deref.result.now ≡ nodes_after c.args.edges.now c.in-Some.node = c.deref.ensures.value ∙ AreAfter-at c.args.nodes c.args.edges.now c.args.after.now c.in-Some.node c.index-after-n.result c.requires.after there.0 c.index-after-n.is in
    rw (heads, c.deref-in-Some.ensures.value) (All-from_recursion (λ b. b < length c.loop-rank.priority.items) (nodes_after c.args.edges.now c.in-Some.node) (heads_inside graph c.args.ranks.now c.requires.edges c.requires.rising c.pop.new.self.items (c.in-Some._rank, c.in-Some.node) c.loop-rank.priority.items h))

pub bounds-costs-n : goal.bounds-costs-n
bounds-costs-n c =
    let graph : CostedGraph = record { nodes = c.args.nodes; edges = c.args.edges.now; costs = c.args.costs.now } in
    let h : AreRanked graph c.args.ranks.now c.requires.edges c.requires.rising (c.pop.new.self.items ++ (c.in-Some._rank, c.in-Some.node) ∷ []) c.loop-rank.priority.items = rw c.in-Some.ensures.items at (c.loop-rank.invariant c.requires.edges c.requires.rising) in
    let there = last_is graph c.args.ranks.now c.requires.edges c.requires.rising c.pop.new.self.items (c.in-Some._rank, c.in-Some.node) c.loop-rank.priority.items h in
    let below = there.0 in
    let long = c.requires.costs in
    omega arith

pub overflow_add-costs : goal.overflow_add-costs
overflow_add-costs c =
    let graph : CostedGraph = record { nodes = c.args.nodes; edges = c.args.edges.now; costs = c.args.costs.now } in
    let h : AreRanked graph c.args.ranks.now c.requires.edges c.requires.rising (c.pop.new.self.items ++ (c.in-Some._rank, c.in-Some.node) ∷ []) c.loop-rank.priority.items = rw c.in-Some.ensures.items at (c.loop-rank.invariant c.requires.edges c.requires.rising) in
    let there = last_is graph c.args.ranks.now c.requires.edges c.requires.rising c.pop.new.self.items (c.in-Some._rank, c.in-Some.node) c.loop-rank.priority.items h in
    let heads : c.deref.result.now ≡ nodes_after c.args.edges.now c.in-Some.node = c.deref.ensures.value ∙ AreAfter-at c.args.nodes c.args.edges.now c.args.after.now c.in-Some.node c.index-after-n.result c.requires.after there.0 c.index-after-n.is in
    let most : c.most_of-most.result ≡ greatest (map (slice_index c.loop-rank.priority.items) (nodes_after c.args.edges.now c.in-Some.node)) = rw (← heads, ← c.deref-in-Some.ensures.value) c.most_of-most.ensures in
    let cheap : (n : ℕ) → slice_index c.args.costs.now n ≤ most_cost = λ n. (let k = c.type_inv.costs n in omega arith) in
    let small = next_small graph c.args.ranks.now c.requires.edges c.requires.rising c.pop.new.self.items (c.in-Some._rank, c.in-Some.node) c.loop-rank.priority.items h cheap in
    omega arith

pub index_mut-requires : goal.index_mut-requires
index_mut-requires c =
    let graph : CostedGraph = record { nodes = c.args.nodes; edges = c.args.edges.now; costs = c.args.costs.now } in
    let h : AreRanked graph c.args.ranks.now c.requires.edges c.requires.rising (c.pop.new.self.items ++ (c.in-Some._rank, c.in-Some.node) ∷ []) c.loop-rank.priority.items = rw c.in-Some.ensures.items at (c.loop-rank.invariant c.requires.edges c.requires.rising) in
    let there = last_is graph c.args.ranks.now c.requires.edges c.requires.rising c.pop.new.self.items (c.in-Some._rank, c.in-Some.node) c.loop-rank.priority.items h in
    let below = there.0 in
    let long = h.long in
    omega (arith, c.loop-rank.priority.ok)

pub loop-rank-preserved : goal.loop-rank-preserved
loop-rank-preserved c = λ t r.
    let graph : CostedGraph = record { nodes = c.args.nodes; edges = c.args.edges.now; costs = c.args.costs.now } in
    let h : AreRanked graph c.args.ranks.now c.requires.edges c.requires.rising (c.pop.new.self.items ++ (c.in-Some._rank, c.in-Some.node) ∷ []) c.loop-rank.priority.items = rw c.in-Some.ensures.items at (c.loop-rank.invariant c.requires.edges c.requires.rising) in
    let there = last_is graph c.args.ranks.now c.requires.edges c.requires.rising c.pop.new.self.items (c.in-Some._rank, c.in-Some.node) c.loop-rank.priority.items h in
    let heads : c.deref.result.now ≡ nodes_after c.args.edges.now c.in-Some.node = c.deref.ensures.value ∙ AreAfter-at c.args.nodes c.args.edges.now c.args.after.now c.in-Some.node c.index-after-n.result c.requires.after there.0 c.index-after-n.is in
    let most : c.most_of-most.result ≡ greatest (map (slice_index c.loop-rank.priority.items) (nodes_after c.args.edges.now c.in-Some.node)) = rw (← heads, ← c.deref-in-Some.ensures.value) c.most_of-most.ensures in
    let cheap : (n : ℕ) → slice_index c.args.costs.now n ≤ most_cost = λ n. (let k = c.type_inv.costs n in omega arith) in
    rw most (AreRanked-step graph c.args.ranks.now t r c.pop.new.self.items (c.in-Some._rank, c.in-Some.node) c.loop-rank.priority.items (rw c.in-Some.ensures.items at (c.loop-rank.invariant t r)) cheap)

pub returns : goal.returns
returns c =
    let graph : CostedGraph = record { nodes = c.args.nodes; edges = c.args.edges.now; costs = c.args.costs.now } in
    let empty : c.loop-rank.order.items ≡ [] = nil_from_length c.loop-rank.order.items (search rules) in
    AreRanked-last graph c.args.ranks.now c.requires.edges c.requires.rising c.loop-rank.priority.items (rw empty at (c.loop-rank.invariant c.requires.edges c.requires.rising))
