use Rattle.std.proofs.Common.{◌≡◌, ◌<◌, ◌+◌, ℕ, true, false, ◌++◌, slice_index, length, set, take, drop, arith, ap, sym, ◌∙◌}
use Rattle.std.proofs.lemmas.Grind.{common_steps}
use Rattle.std.specs.List.{filter}
use Rattle.sdf_level.specs.View.{LevelView}
use Rattle.sdf_level.specs.Lists.{lists_of}
use Rattle.firing_order.specs.Adjacent.{AreAt, is_at}
use Rattle.firing_order.specs.Lacking.{IsFree}
use Rattle.firing_order.proofs.Adjacency.{at_read}
use Rattle.firing_order.proofs.Counting.{at_between, at_counted, at_few, lacking_after}
use Rattle.firing_order.proofs.Remaining.{remaining-set}
use Rattle.sdf_level.proofs.OnlyOne.{turn_order_only, left_only}
use Rattle.firing_order.proofs.Progress.{fired_more, deadlocked_here, left_here, order_here}
use Rattle.firing_order.proofs.greedy.order.Goals as goal

pub fire-requires-clause-links : goal.fire-requires-clause-links
fire-requires-clause-links c =
    let actors : c.level.inside.actors ≡ c.args.level.now.actors = ap (λ (v : LevelView). v.actors) c.level.view_is in
    let lists : AreAt c.args.level.now.actors c.in_ok-links.links.items (lists_of c.in_ok-lists.lists.items) = rw (actors, c.deref.ensures.value) at c.in_ok-lists.ensures in
    let at : c.deref-in-Some.result.now ≡ filter (is_at c.in-Some.actor) c.in_ok-links.links.items = c.deref-in-Some.ensures.value ∙ at_read c.args.level.now.actors c.in_ok-links.links.items c.in_ok-lists.lists.items c.in-Some.actor c.index.result.now lists c.in-Some.ensures.there c.index.ensures in
    let each = c.loop-actor.invariant.fired.one_each in
    let long : length c.deref_mut-in-Some.result.now ≡ c.args.level.now.actors = rw c.deref_mut-in-Some.ensures.value (each ∙ c.requires) in
    rw long (at_between c.in_ok-links.links.items c.loop-actor.fired.items c.loop-actor.lacking.items c.loop-actor.invariant.counted c.in-Some.actor c.deref-in-Some.result.now at c.args.level.now.actors c.in_ok-links.ensures.there)

pub fire-requires-clause-counted : goal.fire-requires-clause-counted
fire-requires-clause-counted c =
    let actors : c.level.inside.actors ≡ c.args.level.now.actors = ap (λ (v : LevelView). v.actors) c.level.view_is in
    let lists : AreAt c.args.level.now.actors c.in_ok-links.links.items (lists_of c.in_ok-lists.lists.items) = rw (actors, c.deref.ensures.value) at c.in_ok-lists.ensures in
    let at : c.deref-in-Some.result.now ≡ filter (is_at c.in-Some.actor) c.in_ok-links.links.items = c.deref-in-Some.ensures.value ∙ at_read c.args.level.now.actors c.in_ok-links.links.items c.in_ok-lists.lists.items c.in-Some.actor c.index.result.now lists c.in-Some.ensures.there c.index.ensures in
    rw (c.deref_mut-in-Some.ensures.value, c.deref_mut-in-Some-2.ensures.value) (at_counted c.in_ok-links.links.items c.loop-actor.fired.items c.loop-actor.lacking.items c.loop-actor.invariant.counted c.in-Some.actor c.deref-in-Some.result.now at)

pub fire-requires-clause-few : goal.fire-requires-clause-few
fire-requires-clause-few c =
    let actors : c.level.inside.actors ≡ c.args.level.now.actors = ap (λ (v : LevelView). v.actors) c.level.view_is in
    let lists : AreAt c.args.level.now.actors c.in_ok-links.links.items (lists_of c.in_ok-lists.lists.items) = rw (actors, c.deref.ensures.value) at c.in_ok-lists.ensures in
    let at : c.deref-in-Some.result.now ≡ filter (is_at c.in-Some.actor) c.in_ok-links.links.items = c.deref-in-Some.ensures.value ∙ at_read c.args.level.now.actors c.in_ok-links.links.items c.in_ok-lists.lists.items c.in-Some.actor c.index.result.now lists c.in-Some.ensures.there c.index.ensures in
    rw c.deref_mut-in-Some-2.ensures.value (at_few c.in_ok-links.links.items c.loop-actor.fired.items c.loop-actor.lacking.items c.loop-actor.invariant.counted c.in-Some.actor c.deref-in-Some.result.now at c.in_ok-links.ensures.few)

pub loop-actor-smaller : goal.loop-actor-smaller
loop-actor-smaller c =
    let free : IsFree c.args.counts.now c.loop-actor.fired.items c.loop-actor.lacking.items c.in-Some.actor = rw (← c.deref-in-loop-actor.ensures.value, ← c.deref-in-loop-actor-2.ensures.value) c.in-Some.ensures.free in
    let whole : take c.loop-actor.fired.len (c.fire.new.fired ++ drop (length c.fire.new.fired) c.loop-actor.fired.items) ≡ c.fire.new.fired = grind (arith, common_steps) in
    rw (whole, c.fire.ensures.fired, c.deref_mut-in-Some.ensures.value) (remaining-set c.args.counts.now c.loop-actor.fired.items c.in-Some.actor c.loop-actor.invariant.fired.one_each free.left)

pub loop-actor-preserved : goal.loop-actor-preserved
loop-actor-preserved c =
    let actors : c.level.inside.actors ≡ c.args.level.now.actors = ap (λ (v : LevelView). v.actors) c.level.view_is in
    let lists : AreAt c.args.level.now.actors c.in_ok-links.links.items (lists_of c.in_ok-lists.lists.items) = rw (actors, c.deref.ensures.value) at c.in_ok-lists.ensures in
    let at : c.deref-in-Some.result.now ≡ filter (is_at c.in-Some.actor) c.in_ok-links.links.items = c.deref-in-Some.ensures.value ∙ at_read c.args.level.now.actors c.in_ok-links.links.items c.in_ok-lists.lists.items c.in-Some.actor c.index.result.now lists c.in-Some.ensures.there c.index.ensures in
    let free : IsFree c.args.counts.now c.loop-actor.fired.items c.loop-actor.lacking.items c.in-Some.actor = rw (← c.deref-in-loop-actor.ensures.value, ← c.deref-in-loop-actor-2.ensures.value) c.in-Some.ensures.free in
    let least : (x : ℕ) → x < c.in-Some.actor → IsFree c.args.counts.now c.loop-actor.fired.items c.loop-actor.lacking.items x → ⊥ = rw (← c.deref-in-loop-actor.ensures.value, ← c.deref-in-loop-actor-2.ensures.value) c.in-Some.ensures.least in
    let before : c.index-before.result.now ≡ slice_index c.loop-actor.fired.items c.in-Some.actor = grind (arith, common_steps) in
    let fired : take c.loop-actor.fired.len (c.fire.new.fired ++ drop (length c.fire.new.fired) c.loop-actor.fired.items) ≡ c.fire.new.fired = grind (arith, common_steps) in
    let lacking : take c.loop-actor.lacking.len (c.fire.new.lacking ++ drop (length c.fire.new.lacking) c.loop-actor.lacking.items) ≡ c.fire.new.lacking = grind (arith, common_steps) in
    let fires : c.fire.new.fired ≡ set c.loop-actor.fired.items c.in-Some.actor (slice_index c.loop-actor.fired.items c.in-Some.actor + 1) = rw c.deref_mut-in-Some.ensures.value at c.fire.ensures.fired in
    let long : length c.fire.new.lacking ≡ length c.loop-actor.lacking.items = rw c.deref_mut-in-Some-2.ensures.value at c.fire.auto.lacking in
    rw (fired, lacking) record {
      counted = lacking_after c.in_ok-links.links.items c.loop-actor.fired.items c.loop-actor.lacking.items c.loop-actor.invariant.counted c.in-Some.actor c.deref-in-Some.result.now at c.fire.new.fired c.fire.new.lacking (slice_index c.loop-actor.fired.items c.in-Some.actor + 1) fires long
          (rw (c.deref_mut-in-Some.ensures.value, c.deref_mut-in-Some-2.ensures.value) at c.fire.ensures.lacking);
      fired = rw (c.in_ok-push.ensures.items, before, fires) (fired_more c.args.level.now c.args.counts.now c.in_ok-links.links.items c.in_ok-links.ensures.links c.loop-actor.fired.items c.loop-actor.turns.items c.loop-actor.lacking.items c.loop-actor.invariant.fired c.loop-actor.invariant.counted c.in-Some.actor free least);
    }

pub returns-clause-left_is_deadlock : goal.returns-clause-left_is_deadlock
returns-clause-left_is_deadlock c =
    let none : (x : ℕ) → IsFree c.args.counts.now c.loop-actor.fired.items c.loop-actor.lacking.items x → ⊥ = rw (← c.deref-in-loop-actor.ensures.value, ← c.deref-in-loop-actor-2.ensures.value) c.in_default.ensures.none in
    deadlocked_here c.args.level.now c.args.counts.now c.in_ok-links.links.items c.in_ok-links.ensures.links c.loop-actor.fired.items c.loop-actor.turns.items c.loop-actor.lacking.items c.loop-actor.invariant.fired c.loop-actor.invariant.counted none
    (λ e. let same : false ≡ true = rw c.if-is_done.false at (c.is_done.ensures.1 (e ∙ sym c.deref-4.ensures.value)) in cc)

what_is_left : goal.returns-clause-left
what_is_left c =
    let none : (x : ℕ) → IsFree c.args.counts.now c.loop-actor.fired.items c.loop-actor.lacking.items x → ⊥ = rw (← c.deref-in-loop-actor.ensures.value, ← c.deref-in-loop-actor-2.ensures.value) c.in_default.ensures.none in
    rw c.new-else-is_done.ensures (left_here c.args.level.now c.args.counts.now c.in_ok-links.links.items c.in_ok-links.ensures.links c.loop-actor.fired.items c.loop-actor.turns.items c.loop-actor.lacking.items c.loop-actor.invariant.fired c.loop-actor.invariant.counted c.in_ok-left.field-0.items none
    (rw c.deref-else-is_done.ensures.value at c.in_ok-left.ensures))

pub returns-clause-left : goal.returns-clause-left
returns-clause-left c = what_is_left c

pub returns-clause-only_left : goal.returns-clause-only_left
returns-clause-only_left c other is = left_only c.args.level.now c.args.counts.now other _ is (what_is_left c)

ordered : goal.returns-then-is_done-clause-order
ordered c = rw c.new.ensures (order_here c.args.level.now c.args.counts.now c.loop-actor.fired.items c.loop-actor.turns.items c.loop-actor.invariant.fired (c.is_done.ensures.0 c.if-is_done.true ∙ c.deref-4.ensures.value))

pub returns-then-is_done-clause-order : goal.returns-then-is_done-clause-order
returns-then-is_done-clause-order c = ordered c

pub returns-then-is_done-clause-only : goal.returns-then-is_done-clause-only
returns-then-is_done-clause-only c other is = turn_order_only c.args.level.now c.args.counts.now other _ is (ordered c)
