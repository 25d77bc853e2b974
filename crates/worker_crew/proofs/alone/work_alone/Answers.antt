use Rattle.std.proofs.Common.{◌≡◌, [], refl, ap, subst, sym, ◌∙◌}
use Rattle.board_lock.specs.Passes.{Finds, MayLeave, TurnView, known_after}
use Rattle.kernel_gate.specs.Signed.{unnamed}
use Rattle.kernel_gate.specs.Value.{Places}
use Rattle.board_rules.specs.Keys.{Key}
use Rattle.board_rules.specs.declared.entry.Entry.{Entry}
use Rattle.firing_board.specs.Locking.{board_meant}
use Rattle.firing_board.specs.View.{BoardView}
use Rattle.worker_crew.specs.Passes.{BoardPass}
use Rattle.worker_crew.specs.Worked.{HasWorked}
use Rattle.worker_crew.proofs.Advancing.{may_later, waited_worked, worked_idle_at, worked_on}
use Rattle.worker_crew.proofs.Holding.{held_added, held_found, held_leaves, no_change}
use Rattle.worker_crew.proofs.alone.work_alone.Goals as goal

abbrev Turn : Type 0
Turn = TurnView BoardView Key Entry Places

-- the pass that has left the lock has worked
left_worked : (p q : BoardPass) (old next : Turn) (y z : BoardView) → next ≡ old → HasWorked p (known_after board_meant old.known y) → HasWorked (known_after board_meant old.known y) (known_after board_meant old.known z)
    → q ≡ known_after board_meant next.known z → HasWorked p q
left_worked p q old next y z same before now known =
    subst (HasWorked p) (sym (known ∙ ap (λ (t : Turn). known_after board_meant t.known z) same)) (worked_on p (known_after board_meant old.known y) (known_after board_meant old.known z) before now)

pub loop-init : goal.loop-init
loop-init g c =
    let p = c.args.pass.known in
    let x = c.enter-held.result.state.value in
    let known = c.enter-held.result.turn.known in
    let found = c.enter-held.result.turn.found in
    record {
      can_next = tt;
      is_finite = tt;
      turn = refl;
      leave = held_leaves p x x [] c.enter-held.ensures.finds (no_change x p.number) known found c.enter-held.ensures.known c.enter-held.ensures.found;
      found = held_found p x x [] c.enter-held.ensures.finds (no_change x p.number) known found c.enter-held.ensures.known c.enter-held.ensures.found;
      worked = waited_worked p _ (held_added p x x [] c.enter-held.ensures.finds (no_change x p.number) known found c.enter-held.ensures.known c.enter-held.ensures.found);
    }

pub turn_here-next-requires-clause-may : goal.turn_here-next-requires-clause-may
turn_here-next-requires-clause-may g c = may_later (unnamed (g.K.Gate.kernels c.args.gate.now)) c.args.pass.known _ c.loop.invariant.worked.later c.requires.may

pub turn_here-next-requires-clause-idle : goal.turn_here-next-requires-clause-idle
turn_here-next-requires-clause-idle g c = worked_idle_at c.args.pass.known _ 0 c.requires.may.some c.loop.invariant.worked c.requires.idle

pub loop-preserved : goal.loop-preserved
loop-preserved g c =
    let p = c.args.pass.known in
    let old = c.loop.held.turn in
    let y = c.loop.held.state.value in
    let z = c.turn_here-next.result.0.state.value in
    let same = sym c.turn_here-next.ensures.turn in
    record {
      can_next = tt;
      is_finite = tt;
      turn = c.turn_here-next.ensures.turn ∙ c.loop.invariant.turn;
      leave = subst (λ (t : Turn). MayLeave board_meant t.known t.found z) same c.turn_here-next.ensures.leave;
      found = subst (λ (t : Turn). Finds board_meant (known_after board_meant t.known z) z) same c.turn_here-next.ensures.found;
      worked = subst (λ (t : Turn). HasWorked p (known_after board_meant t.known z)) same (worked_on p (known_after board_meant old.known y) (known_after board_meant old.known z) c.loop.invariant.worked c.turn_here-next.ensures.worked);
    }

pub returns-then-is_great-clause-worked : goal.returns-then-is_great-clause-worked
returns-then-is_great-clause-worked g c =
    left_worked c.args.pass.known c.leave.result.known c.loop.held.turn c.turn_here-next.result.0.turn c.loop.held.state.value c.turn_here-next.result.0.state.value
    c.turn_here-next.ensures.turn c.loop.invariant.worked c.turn_here-next.ensures.worked c.leave.ensures.known

pub returns-in-Waits-clause-worked : goal.returns-in-Waits-clause-worked
returns-in-Waits-clause-worked g c =
    left_worked c.args.pass.known c.leave-in-Waits.result.known c.loop.held.turn c.turn_here-next.result.0.turn c.loop.held.state.value c.turn_here-next.result.0.state.value
    c.turn_here-next.ensures.turn c.loop.invariant.worked c.turn_here-next.ensures.worked c.leave-in-Waits.ensures.known

pub returns-in-Over-clause-worked : goal.returns-in-Over-clause-worked
returns-in-Over-clause-worked g c =
    left_worked c.args.pass.known c.leave-in-Over.result.known c.loop.held.turn c.turn_here-next.result.0.turn c.loop.held.state.value c.turn_here-next.result.0.state.value
    c.turn_here-next.ensures.turn c.loop.invariant.worked c.turn_here-next.ensures.worked c.leave-in-Over.ensures.known
