use Rattle.std.proofs.Common.{◌≡◌, ℕ, ◌+◌, ◌⊎◌, ◌↔◌, [], ◌++◌, length, take, drop, slice_index, arith, ◌∙◌}
use Rattle.std.specs.List.{Contains}
use Rattle.std.proofs.lemmas.Grind.{common_steps}
use Rattle.std.proofs.lemmas.List.{length_push, nil_from_length}
use Rattle.sdf_level.specs.Lists.{occurrences}
use Rattle.worker_mapping.specs.Graph.{nodes_after}
use Rattle.worker_mapping.proofs.Adjacent.{AreAfter-at}
use Rattle.order_memory.proofs.OpenSets.{less_than_rest}
use Rattle.order_memory.proofs.Standing.{at_most, whole_long}
use Rattle.order_memory.proofs.Following.{follows_first, v_there, longer, heads_there, enough, follows_more, line_whole}
use Rattle.order_memory.proofs.line.line_of.Goals as goal

pub loop-node-init : goal.loop-node-init
loop-node-init c = rw c.in_ok-line.ensures.items (follows_first c.args.nodes c.args.edges.now c.in_ok-waiting.waiting.items c.in_ok-open_nodes.open_nodes.keys c.in_ok-waiting.ensures (rw c.deref.ensures.value at c.in_ok-open_nodes.ensures))

pub index-heads-requires : goal.index-heads-requires
index-heads-requires c =
    let v = c.in-Some.node in
    let rest = c.pop_first.new.self.keys in
    let follows = rw c.in-Some.ensures.removal at c.loop-node.invariant in
    let above = less_than_rest v rest c.in-Some.ensures.all_above in
    let there = v_there c.args.nodes c.args.edges.now c.requires.edges c.loop-node.line.items c.loop-node.waiting.items v rest follows above in
    let long = c.in_ok-after.ensures.lists.one_each in
    grind (arith, common_steps)

pub release-requires-clause-there : goal.release-requires-clause-there
release-requires-clause-there c =
    let v = c.in-Some.node in
    let rest = c.pop_first.new.self.keys in
    let follows = rw c.in-Some.ensures.removal at c.loop-node.invariant in
    let above = less_than_rest v rest c.in-Some.ensures.all_above in
    let there = v_there c.args.nodes c.args.edges.now c.requires.edges c.loop-node.line.items c.loop-node.waiting.items v rest follows above in
    let heads : c.deref-in-Some.result.now ≡ nodes_after c.args.edges.now v = c.deref-in-Some.ensures.value ∙ AreAfter-at c.args.nodes c.args.edges.now c.in_ok-after.after.items v c.index-heads.result.now c.in_ok-after.ensures.lists there c.index-heads.ensures in
    rw (heads, c.deref_mut.ensures.value, follows.waiting_long) (heads_there c.args.nodes c.args.edges.now c.requires.edges c.loop-node.line.items c.loop-node.waiting.items v rest follows above)

pub release-requires-clause-enough : goal.release-requires-clause-enough
release-requires-clause-enough c =
    let v = c.in-Some.node in
    let rest = c.pop_first.new.self.keys in
    let follows = rw c.in-Some.ensures.removal at c.loop-node.invariant in
    let above = less_than_rest v rest c.in-Some.ensures.all_above in
    let there = v_there c.args.nodes c.args.edges.now c.requires.edges c.loop-node.line.items c.loop-node.waiting.items v rest follows above in
    let heads : c.deref-in-Some.result.now ≡ nodes_after c.args.edges.now v = c.deref-in-Some.ensures.value ∙ AreAfter-at c.args.nodes c.args.edges.now c.in_ok-after.after.items v c.index-heads.result.now c.in_ok-after.ensures.lists there c.index-heads.ensures in
    rw (heads, c.deref_mut.ensures.value) (enough c.args.nodes c.args.edges.now c.requires.edges c.loop-node.line.items c.loop-node.waiting.items v rest follows above)

pub enter-requires : goal.enter-requires
enter-requires c =
    let v = c.in-Some.node in
    let rest = c.pop_first.new.self.keys in
    let follows = rw c.in-Some.ensures.removal at c.loop-node.invariant in
    let above = less_than_rest v rest c.in-Some.ensures.all_above in
    let there = v_there c.args.nodes c.args.edges.now c.requires.edges c.loop-node.line.items c.loop-node.waiting.items v rest follows above in
    let heads : c.deref-in-Some.result.now ≡ nodes_after c.args.edges.now v = c.deref-in-Some.ensures.value ∙ AreAfter-at c.args.nodes c.args.edges.now c.in_ok-after.after.items v c.index-heads.result.now c.in_ok-after.ensures.lists there c.index-heads.ensures in
    let heads_again : c.deref-in-Some-2.result.now ≡ nodes_after c.args.edges.now v = c.deref-in-Some-2.ensures.value ∙ AreAfter-at c.args.nodes c.args.edges.now c.in_ok-after.after.items v c.index-heads.result.now c.in_ok-after.ensures.lists there c.index-heads.ensures in
    let long : length c.release.new.waiting ≡ length c.loop-node.waiting.items = rw c.deref_mut.ensures.value at c.release.auto.waiting in
    let whole : take c.loop-node.waiting.len (c.release.new.waiting ++ drop (length c.release.new.waiting) c.loop-node.waiting.items) ≡ c.release.new.waiting = grind (arith, common_steps) in
    rw (heads_again, c.deref-in-Some-3.ensures.value, whole, long, follows.waiting_long) (heads_there c.args.nodes c.args.edges.now c.requires.edges c.loop-node.line.items c.loop-node.waiting.items v rest follows above)

pub loop-node-smaller : goal.loop-node-smaller
loop-node-smaller c =
    let v = c.in-Some.node in
    let rest = c.pop_first.new.self.keys in
    let follows = rw c.in-Some.ensures.removal at c.loop-node.invariant in
    let above = less_than_rest v rest c.in-Some.ensures.all_above in
    let most = at_most c.args.nodes c.args.edges.now _ (longer c.args.nodes c.args.edges.now c.requires.edges c.loop-node.line.items c.loop-node.waiting.items v rest follows above) in
    let long = length_push c.loop-node.line.items v in
    rw c.in_ok-push.ensures.items (omega arith)

pub loop-node-preserved : goal.loop-node-preserved
loop-node-preserved c =
    let v = c.in-Some.node in
    let rest = c.pop_first.new.self.keys in
    let follows = rw c.in-Some.ensures.removal at c.loop-node.invariant in
    let above = less_than_rest v rest c.in-Some.ensures.all_above in
    let there = v_there c.args.nodes c.args.edges.now c.requires.edges c.loop-node.line.items c.loop-node.waiting.items v rest follows above in
    let heads : c.deref-in-Some.result.now ≡ nodes_after c.args.edges.now v = c.deref-in-Some.ensures.value ∙ AreAfter-at c.args.nodes c.args.edges.now c.in_ok-after.after.items v c.index-heads.result.now c.in_ok-after.ensures.lists there c.index-heads.ensures in
    let heads_again : c.deref-in-Some-2.result.now ≡ nodes_after c.args.edges.now v = c.deref-in-Some-2.ensures.value ∙ AreAfter-at c.args.nodes c.args.edges.now c.in_ok-after.after.items v c.index-heads.result.now c.in_ok-after.ensures.lists there c.index-heads.ensures in
    let long : length c.release.new.waiting ≡ length c.loop-node.waiting.items = rw c.deref_mut.ensures.value at c.release.auto.waiting in
    let whole : take c.loop-node.waiting.len (c.release.new.waiting ++ drop (length c.release.new.waiting) c.loop-node.waiting.items) ≡ c.release.new.waiting = grind (arith, common_steps) in
    let released : (n : ℕ) → slice_index c.release.new.waiting n + occurrences n (nodes_after c.args.edges.now v) ≡ slice_index c.loop-node.waiting.items n = rw (heads, c.deref_mut.ensures.value) at c.release.ensures in
    let entered : (n : ℕ) → Contains c.enter.new.open_nodes.keys n ↔ (Contains rest n ⊎ (Contains (nodes_after c.args.edges.now v) n × (slice_index c.release.new.waiting n ≡ 0))) = rw (heads_again, c.deref-in-Some-3.ensures.value, whole) at c.in_ok-enter.ensures in
    rw (c.in_ok-push.ensures.items, whole) (follows_more c.args.nodes c.args.edges.now c.requires.edges c.loop-node.line.items c.loop-node.waiting.items v rest follows above c.release.new.waiting c.enter.new.open_nodes.keys long released entered)

pub returns-clause-line : goal.returns-clause-line
returns-clause-line c =
    let none : c.loop-node.open_nodes.keys ≡ [] = nil_from_length c.loop-node.open_nodes.keys (let variant = c.in_default.ensures.variant in grind (arith, common_steps)) in
    line_whole c.args.nodes c.args.edges.now c.requires.acyclic.0 c.loop-node.line.items c.loop-node.waiting.items c.requires.edges c.requires.acyclic.1 (rw none at c.loop-node.invariant)

pub returns-clause-long : goal.returns-clause-long
returns-clause-long c =
    let none : c.loop-node.open_nodes.keys ≡ [] = nil_from_length c.loop-node.open_nodes.keys (let variant = c.in_default.ensures.variant in grind (arith, common_steps)) in
    whole_long c.args.nodes c.args.edges.now c.loop-node.line.items (line_whole c.args.nodes c.args.edges.now c.requires.acyclic.0 c.loop-node.line.items c.loop-node.waiting.items c.requires.edges c.requires.acyclic.1 (rw none at c.loop-node.invariant))
