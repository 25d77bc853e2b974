use Rattle.std.proofs.Common.{ℕ, refl, sym, subst}
use Rattle.board_lock.specs.Passes.{known_after}
use Rattle.firing_board.specs.Claims.{Claims}
use Rattle.firing_board.specs.Locking.{board_meant}
use Rattle.firing_board.specs.Runs.{IsIdle, IsSound}
use Rattle.firing_board.specs.View.{BoardView}
use Rattle.worker_crew.specs.Asked.{Asked}
use Rattle.worker_crew.specs.Passes.{BoardPass}
use Rattle.worker_crew.proofs.Claiming.{turns}
use Rattle.worker_crew.proofs.Holding.{found_then, left_then, may_leave_then}
use Rattle.worker_crew.proofs.Leaving.{found_idle, found_worker}
use Rattle.worker_crew.proofs.under_lock.claim_here.Goals as goal

pub claim-claim-requires : goal.claim-claim-requires
claim-claim-requires c =
    let k = c.args.held.turn.known in
    let y = c.args.held.state.value in
    let p = known_after board_meant k y in
    let found = c.requires.found in
    let sound : IsSound y = subst IsSound c.deref.ensures c.journal-journal.ensures.sound in
    let may = c.requires.may in
    let idle = found_idle p y found c.board_laws.ensures sound may.1.some c.requires.idle (found_worker may.0 p y found may.1) in
    subst (λ (b : BoardView). IsIdle b c.number-worker.result) (sym c.deref_mut.ensures.value) (subst (IsIdle y) (sym c.number-worker.ensures) idle)

pub returns : goal.returns
returns c =
    let k = c.args.held.turn.known in
    let y = c.args.held.state.value in
    let p = known_after board_meant k y in
    let found = c.requires.found in
    let sound : IsSound y = subst IsSound c.deref.ensures c.journal-journal.ensures.sound in
    let may = c.requires.may in
    let z = c.claim-claim.new.self in
    let claims : Claims y z k.number c.claim-claim.result = subst (λ (n : ℕ). Claims y z n c.claim-claim.result) c.number-worker.ensures (subst (λ (b : BoardView). Claims b z c.number-worker.result c.claim-claim.result) c.deref_mut.ensures.value c.claim-claim.ensures.claims) in
    let t = turns c.board_laws.ensures c.work_fits.ensures p y z found sound may.1.some (found_worker may.0 p y found may.1) c.claim-claim.result claims in
    record {
      turn = refl;
      leave = may_leave_then k c.args.held.turn.found y z t.more c.requires.leave t.changes;
      found = found_then k c.args.held.turn.found y z t.more c.requires.leave t.changes found;
      asked = subst (λ (q : BoardPass). Asked p q c.claim-claim.result) (sym (left_then k c.args.held.turn.found y z t.more c.requires.leave t.changes)) t.asked;
    }
