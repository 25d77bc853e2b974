use Rattle.std.proofs.Common.{◌≡◌, ℕ, IsOk, Some, [], ◌∷◌, true, sym, subst, ◌∙◌}
use Rattle.nested_jobs.specs.Rules as nested
use Rattle.job_preparing.specs.Handing.{answer_with}
use Rattle.board_rules.specs.declared.entry.Entry.TheVariants.{Finish}
use Rattle.firing_board.specs.Finishes.{Finishes, MayComeBack}
use Rattle.firing_board.specs.Runs.{IsSound, Runs}
use Rattle.firing_board.specs.View.{BoardView}
use Rattle.worker_crew.proofs.Finishing.{gives_back}
use Rattle.worker_crew.proofs.Advancing.{finished_idle, may_later}
use Rattle.worker_crew.proofs.Holding.{claimed_may, held_added, held_found, held_leaves}
use Rattle.worker_crew.proofs.Leaving.{found_running}
use Rattle.worker_crew.proofs.giving_back.give_back_configured.Goals as goal

pub finish_configure-requires-clause-runs : goal.finish_configure-requires-clause-runs
finish_configure-requires-clause-runs g c =
    let p = c.args.pass.known in
    let x = c.enter-held.result.state.value in
    let sound : IsSound x = subst IsSound c.deref.ensures c.journal-journal.ensures.sound in
    let runs = found_running p x c.enter-held.ensures.finds c.board_laws.ensures sound (Some c.args.frame.places) (λ key. MayComeBack key c.args.frame c.args.answer (IsOk c.args.answer)) c.requires.claimed in
    let here : Runs x c.args.ticket.worker (MayComeBack x.key c.args.frame c.args.answer (IsOk c.args.answer)) = subst (λ (n : ℕ). Runs x n (MayComeBack x.key c.args.frame c.args.answer (IsOk c.args.answer))) (sym c.requires.ticket) runs in
    subst (λ (b : BoardView). Runs b c.args.ticket.worker (MayComeBack b.key c.args.frame c.args.answer (IsOk c.args.answer))) (sym c.deref_mut.ensures.value) here

pub claim_held-requires-clause-leave : goal.claim_held-requires-clause-leave
claim_held-requires-clause-leave g c =
    let p = c.args.pass.known in
    let x = c.enter-held.result.state.value in
    let y = c.finish_configure.new.self in
    let sound : IsSound x = subst IsSound c.deref.ensures c.journal-journal.ensures.sound in
    let finishes : Finishes x y p.number = subst (λ (n : ℕ). Finishes x y n) c.requires.ticket (subst (λ (b : BoardView). Finishes b y c.args.ticket.worker) c.deref_mut.ensures.value c.finish_configure.ensures.finishes) in
    let starved : x.starved ≡ true → y.starved ≡ true = subst (λ (b : BoardView). b.starved ≡ true → y.starved ≡ true) c.deref_mut.ensures.value (λ is. c.finish_configure.ensures.starved ∙ is) in
    let changes = gives_back p x y (Some c.args.frame.places) (λ key. MayComeBack key c.args.frame c.args.answer (IsOk c.args.answer)) c.board_laws.ensures c.enter-held.ensures.finds sound c.requires.claimed (λ work may. (answer_with (Some (nested.Work work)) c.args.frame c.args.answer, may.answered)) finishes starved in
    held_leaves p x y (Finish p.number ∷ []) c.enter-held.ensures.finds changes c.enter-held.result.turn.known c.enter-held.result.turn.found c.enter-held.ensures.known c.enter-held.ensures.found

pub claim_held-requires-clause-found : goal.claim_held-requires-clause-found
claim_held-requires-clause-found g c =
    let p = c.args.pass.known in
    let x = c.enter-held.result.state.value in
    let y = c.finish_configure.new.self in
    let sound : IsSound x = subst IsSound c.deref.ensures c.journal-journal.ensures.sound in
    let finishes : Finishes x y p.number = subst (λ (n : ℕ). Finishes x y n) c.requires.ticket (subst (λ (b : BoardView). Finishes b y c.args.ticket.worker) c.deref_mut.ensures.value c.finish_configure.ensures.finishes) in
    let starved : x.starved ≡ true → y.starved ≡ true = subst (λ (b : BoardView). b.starved ≡ true → y.starved ≡ true) c.deref_mut.ensures.value (λ is. c.finish_configure.ensures.starved ∙ is) in
    let changes = gives_back p x y (Some c.args.frame.places) (λ key. MayComeBack key c.args.frame c.args.answer (IsOk c.args.answer)) c.board_laws.ensures c.enter-held.ensures.finds sound c.requires.claimed (λ work may. (answer_with (Some (nested.Work work)) c.args.frame c.args.answer, may.answered)) finishes starved in
    held_found p x y (Finish p.number ∷ []) c.enter-held.ensures.finds changes c.enter-held.result.turn.known c.enter-held.result.turn.found c.enter-held.ensures.known c.enter-held.ensures.found

pub claim_held-requires-clause-may : goal.claim_held-requires-clause-may
claim_held-requires-clause-may g c =
    let p = c.args.pass.known in
    let x = c.enter-held.result.state.value in
    let y = c.finish_configure.new.self in
    let sound : IsSound x = subst IsSound c.deref.ensures c.journal-journal.ensures.sound in
    let finishes : Finishes x y p.number = subst (λ (n : ℕ). Finishes x y n) c.requires.ticket (subst (λ (b : BoardView). Finishes b y c.args.ticket.worker) c.deref_mut.ensures.value c.finish_configure.ensures.finishes) in
    let starved : x.starved ≡ true → y.starved ≡ true = subst (λ (b : BoardView). b.starved ≡ true → y.starved ≡ true) c.deref_mut.ensures.value (λ is. c.finish_configure.ensures.starved ∙ is) in
    let changes = gives_back p x y (Some c.args.frame.places) (λ key. MayComeBack key c.args.frame c.args.answer (IsOk c.args.answer)) c.board_laws.ensures c.enter-held.ensures.finds sound c.requires.claimed (λ work may. (answer_with (Some (nested.Work work)) c.args.frame c.args.answer, may.answered)) finishes starved in
    let added = held_added p x y (Finish p.number ∷ []) c.enter-held.ensures.finds changes c.enter-held.result.turn.known c.enter-held.result.turn.found c.enter-held.ensures.known c.enter-held.ensures.found in
    let may = claimed_may p (Some c.args.frame.places) (λ key. MayComeBack key c.args.frame c.args.answer (IsOk c.args.answer)) c.requires.claimed in
    (_, may_later _ p _ added.later may)

pub claim_held-requires-clause-idle : goal.claim_held-requires-clause-idle
claim_held-requires-clause-idle g c =
    let p = c.args.pass.known in
    let x = c.enter-held.result.state.value in
    let y = c.finish_configure.new.self in
    let sound : IsSound x = subst IsSound c.deref.ensures c.journal-journal.ensures.sound in
    let finishes : Finishes x y p.number = subst (λ (n : ℕ). Finishes x y n) c.requires.ticket (subst (λ (b : BoardView). Finishes b y c.args.ticket.worker) c.deref_mut.ensures.value c.finish_configure.ensures.finishes) in
    let starved : x.starved ≡ true → y.starved ≡ true = subst (λ (b : BoardView). b.starved ≡ true → y.starved ≡ true) c.deref_mut.ensures.value (λ is. c.finish_configure.ensures.starved ∙ is) in
    let changes = gives_back p x y (Some c.args.frame.places) (λ key. MayComeBack key c.args.frame c.args.answer (IsOk c.args.answer)) c.board_laws.ensures c.enter-held.ensures.finds sound c.requires.claimed (λ work may. (answer_with (Some (nested.Work work)) c.args.frame c.args.answer, may.answered)) finishes starved in
    finished_idle p _ c.requires.claimed.some (held_added p x y (Finish p.number ∷ []) c.enter-held.ensures.finds changes c.enter-held.result.turn.known c.enter-held.result.turn.found c.enter-held.ensures.known c.enter-held.ensures.found)

pub returns-clause-asked : goal.returns-clause-asked
returns-clause-asked g c =
    let p = c.args.pass.known in
    let x = c.enter-held.result.state.value in
    let y = c.finish_configure.new.self in
    let sound : IsSound x = subst IsSound c.deref.ensures c.journal-journal.ensures.sound in
    let finishes : Finishes x y p.number = subst (λ (n : ℕ). Finishes x y n) c.requires.ticket (subst (λ (b : BoardView). Finishes b y c.args.ticket.worker) c.deref_mut.ensures.value c.finish_configure.ensures.finishes) in
    let starved : x.starved ≡ true → y.starved ≡ true = subst (λ (b : BoardView). b.starved ≡ true → y.starved ≡ true) c.deref_mut.ensures.value (λ is. c.finish_configure.ensures.starved ∙ is) in
    let changes = gives_back p x y (Some c.args.frame.places) (λ key. MayComeBack key c.args.frame c.args.answer (IsOk c.args.answer)) c.board_laws.ensures c.enter-held.ensures.finds sound c.requires.claimed (λ work may. (answer_with (Some (nested.Work work)) c.args.frame c.args.answer, may.answered)) finishes starved in
    record { after = _; added = held_added p x y (Finish p.number ∷ []) c.enter-held.ensures.finds changes c.enter-held.result.turn.known c.enter-held.result.turn.found c.enter-held.ensures.known c.enter-held.ensures.found; asked = c.claim_held.ensures.asked }
