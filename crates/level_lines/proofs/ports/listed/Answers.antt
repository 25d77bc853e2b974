use Rattle.std.proofs.Common.{◌≡◌, ℕ, List, ◌++◌, length, take, drop, arith, Vec, Global}
use Rattle.std.proofs.lemmas.Grind.{common_steps}
use Rattle.sdf_level.specs.Lists.{lists_of}
use Rattle.level_lines.proofs.Placed.{listed_more}
use Rattle.level_lines.proofs.ports.listed.Goals as goal

pub loop-i-preserved : goal.loop-i-preserved
loop-i-preserved c =
    let lists : List (Vec ℕ Global) = c.loop-i.lists.items in
    let whole : take c.loop-i.lists.len (c.push.new.lists ++ drop (length c.push.new.lists) lists) ≡ c.push.new.lists = grind (arith, common_steps) in
    rw whole (listed_more c.args.actors c.args.side c.args.links.now c.loop-i.i (lists_of lists) (lists_of c.push.new.lists) c.actor_at.result (let t = c.loop-i-test.true in omega arith)
    c.actor_at.ensures c.loop-i.invariant (rw c.deref_mut.ensures.value at c.in_ok-push.ensures))
