use Rattle.std.proofs.Common.{◌≡◌, ℕ, IsOk, Some, [], ◌∷◌, true, refl, sym, subst, ◌∙◌}
use Rattle.kernel_gate.specs.Signed.{unnamed}
use Rattle.kernel_gate.specs.Value.{FrameView}
use Rattle.nested_jobs.specs.Rules as nested
use Rattle.job_preparing.specs.Handing.{answer_with}
use Rattle.board_lock.specs.Passes.{known_after}
use Rattle.board_rules.specs.declared.entry.Entry.TheVariants.{Finish}
use Rattle.firing_board.specs.Finishes.{Finishes, MayComeBack}
use Rattle.firing_board.specs.Locking.{board_meant}
use Rattle.firing_board.specs.Runs.{IsSound, Runs}
use Rattle.firing_board.specs.View.{BoardView}
use Rattle.worker_crew.proofs.Answering.{fires_back, fits_gate}
use Rattle.worker_crew.proofs.Finishing.{gives_back}
use Rattle.worker_crew.proofs.Holding.{added_then, found_then, may_leave_then}
use Rattle.worker_crew.proofs.Leaving.{found_running}
use Rattle.worker_crew.proofs.alone.configure_here.Goals as goal

pub fire-answer-requires : goal.fire-answer-requires
fire-answer-requires g c = fits_gate (unnamed (g.K.Gate.kernels c.args.gate.now)) (known_after board_meant c.args.held.turn.known c.args.held.state.value) (Some c.args.frame.places) c.args.frame c.requires.may c.requires.claimed

pub finish_configure-requires-clause-runs : goal.finish_configure-requires-clause-runs
finish_configure-requires-clause-runs g c =
    let k = c.args.held.turn.known in
    let y = c.args.held.state.value in
    let p = known_after board_meant k y in
    let sound : IsSound y = subst IsSound c.deref.ensures c.journal-journal.ensures.sound in
    let frame : FrameView = c.fire-answer.new.frame in
    let answer = c.fire-answer.result in
    let back = fires_back p c.args.frame frame answer c.requires.claimed c.fire-answer.ensures.same c.fire-answer.ensures.value in
    let runs = found_running p y c.requires.found c.board_laws.ensures sound (Some frame.places) (λ key. MayComeBack key frame answer (IsOk answer)) back in
    let here : Runs y c.args.ticket.worker (MayComeBack y.key frame answer (IsOk answer)) = subst (λ (n : ℕ). Runs y n (MayComeBack y.key frame answer (IsOk answer))) (sym c.requires.ticket) runs in
    subst (λ (b : BoardView). Runs b c.args.ticket.worker (MayComeBack b.key frame answer (IsOk answer))) (sym c.deref_mut.ensures.value) here

pub returns : goal.returns
returns g c =
    let k = c.args.held.turn.known in
    let y = c.args.held.state.value in
    let p = known_after board_meant k y in
    let sound : IsSound y = subst IsSound c.deref.ensures c.journal-journal.ensures.sound in
    let frame : FrameView = c.fire-answer.new.frame in
    let answer = c.fire-answer.result in
    let back = fires_back p c.args.frame frame answer c.requires.claimed c.fire-answer.ensures.same c.fire-answer.ensures.value in
    let z = c.finish_configure.new.self in
    let finishes : Finishes y z p.number = subst (λ (n : ℕ). Finishes y z n) c.requires.ticket (subst (λ (b : BoardView). Finishes b z c.args.ticket.worker) c.deref_mut.ensures.value c.finish_configure.ensures.finishes) in
    let starved : y.starved ≡ true → z.starved ≡ true = subst (λ (b : BoardView). b.starved ≡ true → z.starved ≡ true) c.deref_mut.ensures.value (λ is. c.finish_configure.ensures.starved ∙ is) in
    let changes = gives_back p y z (Some frame.places) (λ key. MayComeBack key frame answer (IsOk answer)) c.board_laws.ensures c.requires.found sound back (λ work may. (answer_with (Some (nested.Work work)) frame answer, may.answered)) finishes starved in
    record {
      turn = refl;
      leave = may_leave_then k c.args.held.turn.found y z (Finish p.number ∷ []) c.requires.leave changes;
      found = found_then k c.args.held.turn.found y z (Finish p.number ∷ []) c.requires.leave changes c.requires.found;
      added = added_then k c.args.held.turn.found y z (Finish p.number ∷ []) c.requires.leave changes c.requires.found;
    }
