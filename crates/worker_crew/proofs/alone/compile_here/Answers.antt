use Rattle.std.proofs.Common.{◌≡◌, ℕ, None, [], ◌∷◌, true, refl, sym, subst}
use Rattle.board_lock.specs.Passes.{known_after}
use Rattle.board_rules.specs.declared.entry.Entry.TheVariants.{Finish}
use Rattle.firing_board.specs.Finishes.{Finishes, MayEnd}
use Rattle.firing_board.specs.Locking.{board_meant}
use Rattle.firing_board.specs.Runs.{IsSound, Runs}
use Rattle.firing_board.specs.View.{BoardView, lent_to}
use Rattle.worker_crew.proofs.Answering.{compiles_back}
use Rattle.worker_crew.proofs.Finishing.{ended_answers, gives_back}
use Rattle.worker_crew.proofs.Holding.{added_then, found_then, may_leave_then}
use Rattle.worker_crew.proofs.Leaving.{found_running, found_unlent}
use Rattle.worker_crew.proofs.alone.compile_here.Goals as goal

pub finish_compile-refused-requires-clause-runs : goal.finish_compile-refused-requires-clause-runs
finish_compile-refused-requires-clause-runs c =
    let y = c.args.held.state.value in
    let p = known_after board_meant c.args.held.turn.known y in
    let end = c.run-end.result in
    let sound : IsSound y = subst IsSound c.deref.ensures c.journal-journal.ensures.sound in
    let back = compiles_back p c.args.task end c.compilations_end.ensures c.requires.claimed c.run-end.ensures.end in
    let runs = found_running p y c.requires.found c.board_laws.ensures sound None (λ key. MayEnd key end) back in
    let here : Runs y c.args.ticket.worker (MayEnd y.key end) = subst (λ (n : ℕ). Runs y n (MayEnd y.key end)) (sym c.requires.ticket) runs in
    subst (λ (b : BoardView). Runs b c.args.ticket.worker (MayEnd b.key end)) (sym c.deref_mut.ensures.value) here

pub finish_compile-refused-requires-clause-lent : goal.finish_compile-refused-requires-clause-lent
finish_compile-refused-requires-clause-lent c =
    let y = c.args.held.state.value in
    let p = known_after board_meant c.args.held.turn.known y in
    let end = c.run-end.result in
    let back = compiles_back p c.args.task end c.compilations_end.ensures c.requires.claimed c.run-end.ensures.end in
    let none : lent_to y p.number ≡ None = found_unlent p y c.requires.found (λ key. MayEnd key end) back in
    let here : lent_to y c.args.ticket.worker ≡ None = subst (λ (n : ℕ). lent_to y n ≡ None) (sym c.requires.ticket) none in
    subst (λ (b : BoardView). lent_to b c.args.ticket.worker ≡ None) (sym c.deref_mut.ensures.value) here

pub returns : goal.returns
returns c =
    let k = c.args.held.turn.known in
    let y = c.args.held.state.value in
    let p = known_after board_meant k y in
    let end = c.run-end.result in
    let sound : IsSound y = subst IsSound c.deref.ensures c.journal-journal.ensures.sound in
    let back = compiles_back p c.args.task end c.compilations_end.ensures c.requires.claimed c.run-end.ensures.end in
    let z = c.finish_compile-refused.new.self in
    let finishes : Finishes y z p.number = subst (λ (n : ℕ). Finishes y z n) c.requires.ticket (subst (λ (b : BoardView). Finishes b z c.args.ticket.worker) c.deref_mut.ensures.value c.finish_compile-refused.ensures.finishes) in
    let starved : y.starved ≡ true → z.starved ≡ true = subst (λ (b : BoardView). b.starved ≡ true → z.starved ≡ true) c.deref_mut.ensures.value c.finish_compile-refused.ensures.stays in
    let changes = gives_back p y z None (λ key. MayEnd key end) c.board_laws.ensures c.requires.found sound back (λ work may. ended_answers y.key end work may) finishes starved in
    record {
      turn = refl;
      leave = may_leave_then k c.args.held.turn.found y z (Finish p.number ∷ []) c.requires.leave changes;
      found = found_then k c.args.held.turn.found y z (Finish p.number ∷ []) c.requires.leave changes c.requires.found;
      added = added_then k c.args.held.turn.found y z (Finish p.number ∷ []) c.requires.leave changes c.requires.found;
    }
