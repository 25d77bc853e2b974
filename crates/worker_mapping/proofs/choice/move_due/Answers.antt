use Rattle.std.proofs.Common.{◌<◌, length}
use Rattle.std.proofs.lemmas.List.Elements.{All-contains}
use Rattle.worker_mapping.proofs.Opening.{Key, first_in, popped, MovesSoFar-more}
use Rattle.worker_mapping.proofs.choice.move_due.Goals as goal

pub bounds-priority-node : goal.bounds-priority-node
bounds-priority-node c =
    All-contains (λ (key : Key). key.1 < length c.args.priority.now) c.args.later.now.keys c.in-Some.first.now c.requires
    (c.loop-first.invariant.left c.in-Some.first.now (first_in c.loop-first.later.keys c.in-Some.first.now c.in-Some.ensures.first))

pub loop-first-preserved : goal.loop-first-preserved
loop-first-preserved c =
    let first = popped c.loop-first.later.keys c.pop_first.new.self.keys c.pop_first.result c.in-Some.first.now c.in-Some.ensures.first c.pop_first.ensures.variant c.pop_first.ensures.removal in
    rw c.in_ok-insert.ensures.keys (MovesSoFar-more c.args.now c.args.priority.now c.args.due.now.keys c.args.later.now.keys c.loop-first.due.keys c.loop-first.later.keys c.pop_first.new.self.keys c.in-Some.first.now c.loop-first.invariant c.if-now-time.false first)
