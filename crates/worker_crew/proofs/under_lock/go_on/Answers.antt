use Rattle.board_lock.specs.Passes.{known_after}
use Rattle.firing_board.specs.Locking.{board_meant}
use Rattle.std.proofs.Common.{sym, subst}
use Rattle.worker_crew.specs.Passes.{BoardPass}
use Rattle.worker_crew.specs.Asked.{HasAsked}
use Rattle.firing_board.specs.declared.claim.Claim.TheVariants as claim
use Rattle.worker_crew.proofs.Advancing.{added_same, worked_same}
use Rattle.worker_crew.proofs.under_lock.go_on.Goals as goal

pub returns-then-rests-clause-asked : goal.returns-then-rests-clause-asked
returns-then-rests-clause-asked c =
    let p = known_after board_meant c.args.held.turn.known c.args.held.state.value in
    subst (λ (q : BoardPass). HasAsked p q claim.Wait) (sym c.leave.ensures.known) record { between = p; worked = worked_same p; asked = added_same p }
