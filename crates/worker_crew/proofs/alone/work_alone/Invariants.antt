use Rattle.std.proofs.Common.{◌≡◌}
use Rattle.board_lock.specs.Passes.{Finds, MayLeave, known_after}
use Rattle.firing_board.specs.Locking.{board_meant}
use Rattle.worker_crew.specs.Worked.{HasWorked}
use Rattle.worker_crew.proofs.alone.work_alone.Given as goal

abbrev pub invariant-loop : goal.invariant-loop
invariant-loop g l = record {
  can_next : (goal.iterator-loop g).can_next l.iterator';
  is_finite : (goal.iterator-loop g).is_finite l.iterator';
  turn : l.held.turn ≡ l.initial.held.turn;
  leave : MayLeave board_meant l.held.turn.known l.held.turn.found l.held.state.value;
  found : Finds board_meant (known_after board_meant l.held.turn.known l.held.state.value) l.held.state.value;
  worked : HasWorked l.fn.pass.known (known_after board_meant l.held.turn.known l.held.state.value);
}
