use Rattle.std.proofs.lemmas.Result.{on_ok_weaker}
use Rattle.placement.specs.Placing.{in_order}
use Rattle.placement.proofs.Entering.{same_large, same_small}
use Rattle.placement.proofs.enter.enter.Goals as goal

pub returns-then-len-lt-LARGE-clause-same : goal.returns-then-len-lt-LARGE-clause-same
returns-then-len-lt-LARGE-clause-same c = on_ok_weaker c.insert.result (same_large (in_order c.args.placed.now.small) (in_order c.args.placed.now.large) (in_order c.insert.new.self) c.args.next) c.insert.ensures.same

pub returns-clause-same : goal.returns-clause-same
returns-clause-same c = on_ok_weaker c.insert-2.result (same_small (in_order c.args.placed.now.small) (in_order c.args.placed.now.large) (in_order c.insert-2.new.self) c.args.next) c.insert-2.ensures.same
