use Rattle.std.proofs.Common.{◌≡◌}
use Rattle.worker_crew.specs.Worked.{HasWorked}
use Rattle.worker_crew.proofs.asking.await_item.Given as goal

abbrev pub invariant-loop : goal.invariant-loop
invariant-loop g l = record {
  can_next : (goal.iterator-loop g).can_next l.iterator';
  is_finite : (goal.iterator-loop g).is_finite l.iterator';
  lock : l.pass.lock ≡ l.lock;
  worked : HasWorked l.initial.pass.known l.pass.known;
}
