use Rattle.std.proofs.Common.{◌≡◌, Some, None, [], ◌∷◌, inl, inr, ap, subst, sym, ◌∙◌}
use Rattle.board_lock.specs.Passes.{Finds, MayLeave, TurnView, known_after}
use Rattle.kernel_gate.specs.Signed.{unnamed}
use Rattle.kernel_gate.specs.Value.{Places}
use Rattle.board_rules.specs.Keys.{Key}
use Rattle.board_rules.specs.declared.entry.Entry.{Entry}
use Rattle.board_rules.specs.declared.entry.Entry.TheVariants.{Finish}
use Rattle.firing_board.specs.Locking.{board_meant}
use Rattle.firing_board.specs.View.{BoardView}
use Rattle.firing_board.specs.declared.claim.Claim.{Claim}
use Rattle.worker_crew.specs.Asked.{Asked, HasClaimed, IsToFire, IsToCopy, IsToCompile}
use Rattle.worker_crew.specs.Passes.{BoardPass, MayWork}
use Rattle.worker_crew.specs.Worked.{HasAdded, HasWorked}
use Rattle.worker_crew.proofs.Advancing.{may_later, ran_worked, waited_worked}
use Rattle.worker_crew.proofs.alone.turn_here.Goals as goal

abbrev Turn : Type 0
Turn = TurnView BoardView Key Entry Places

-- what was asked for is this
asked_as : (p q : BoardPass) (b c : Claim) → b ≡ c → Asked p q b → Asked p q c
asked_as p q b c same asked = subst (λ (x : Claim). Asked p q x) same asked

pub fire_here-requires-clause-may : goal.fire_here-requires-clause-may
fire_here-requires-clause-may g c =
    let kernels = unnamed (g.K.Gate.kernels c.args.gate.now) in
    let k = c.args.held.turn.known in
    let y = c.claim_here-held.result.0.state.value in
    let p = known_after board_meant k c.args.held.state.value in
    let q = known_after board_meant k y in
    let asked = asked_as p q _ _ c.in-Fire.is c.claim_here-held.ensures.asked in
    subst (λ (t : Turn). MayWork kernels (known_after board_meant t.known y)) (sym c.claim_here-held.ensures.turn) (may_later kernels p q asked.1.2.later c.requires.may)

pub fire_here-requires-clause-ticket : goal.fire_here-requires-clause-ticket
fire_here-requires-clause-ticket g c =
    let k = c.args.held.turn.known in
    let y = c.claim_here-held.result.0.state.value in
    let asked = asked_as (known_after board_meant k c.args.held.state.value) (known_after board_meant k y) _ _ c.in-Fire.is c.claim_here-held.ensures.asked in
    asked.0 ∙ sym (ap (λ (t : Turn). t.known.number) c.claim_here-held.ensures.turn)

pub fire_here-requires-clause-claimed : goal.fire_here-requires-clause-claimed
fire_here-requires-clause-claimed g c =
    let k = c.args.held.turn.known in
    let y = c.claim_here-held.result.0.state.value in
    let asked = asked_as (known_after board_meant k c.args.held.state.value) (known_after board_meant k y) _ _ c.in-Fire.is c.claim_here-held.ensures.asked in
    subst (λ (t : Turn). HasClaimed (known_after board_meant t.known y) (Some c.in-Fire.frame.places) (IsToFire c.in-Fire.frame)) (sym c.claim_here-held.ensures.turn) asked.2

pub returns-in-Fire-clause-worked : goal.returns-in-Fire-clause-worked
returns-in-Fire-clause-worked g c =
    let k = c.args.held.turn.known in
    let y = c.claim_here-held.result.0.state.value in
    let z = c.fire_here.result.state.value in
    let p = known_after board_meant k c.args.held.state.value in
    let q = known_after board_meant k y in
    let r = known_after board_meant k z in
    let asked = asked_as p q _ _ c.in-Fire.is c.claim_here-held.ensures.asked in
    let added : HasAdded q r (Finish q.number ∷ []) = subst (λ (t : Turn). HasAdded (known_after board_meant t.known y) (known_after board_meant t.known z) (Finish t.known.number ∷ [])) c.claim_here-held.ensures.turn c.fire_here.ensures.added in
    ran_worked p q r asked.1 added

pub configure_here-requires-clause-may : goal.configure_here-requires-clause-may
configure_here-requires-clause-may g c =
    let kernels = unnamed (g.K.Gate.kernels c.args.gate.now) in
    let k = c.args.held.turn.known in
    let y = c.claim_here-held.result.0.state.value in
    let p = known_after board_meant k c.args.held.state.value in
    let q = known_after board_meant k y in
    let asked = asked_as p q _ _ c.in-Configure.is c.claim_here-held.ensures.asked in
    subst (λ (t : Turn). MayWork kernels (known_after board_meant t.known y)) (sym c.claim_here-held.ensures.turn) (may_later kernels p q asked.1.2.later c.requires.may)

pub configure_here-requires-clause-ticket : goal.configure_here-requires-clause-ticket
configure_here-requires-clause-ticket g c =
    let k = c.args.held.turn.known in
    let y = c.claim_here-held.result.0.state.value in
    let asked = asked_as (known_after board_meant k c.args.held.state.value) (known_after board_meant k y) _ _ c.in-Configure.is c.claim_here-held.ensures.asked in
    asked.0 ∙ sym (ap (λ (t : Turn). t.known.number) c.claim_here-held.ensures.turn)

pub configure_here-requires-clause-claimed : goal.configure_here-requires-clause-claimed
configure_here-requires-clause-claimed g c =
    let k = c.args.held.turn.known in
    let y = c.claim_here-held.result.0.state.value in
    let asked = asked_as (known_after board_meant k c.args.held.state.value) (known_after board_meant k y) _ _ c.in-Configure.is c.claim_here-held.ensures.asked in
    subst (λ (t : Turn). HasClaimed (known_after board_meant t.known y) (Some c.in-Configure.frame.places) (IsToFire c.in-Configure.frame)) (sym c.claim_here-held.ensures.turn) asked.2

pub returns-in-Configure-clause-worked : goal.returns-in-Configure-clause-worked
returns-in-Configure-clause-worked g c =
    let k = c.args.held.turn.known in
    let y = c.claim_here-held.result.0.state.value in
    let z = c.configure_here.result.state.value in
    let p = known_after board_meant k c.args.held.state.value in
    let q = known_after board_meant k y in
    let r = known_after board_meant k z in
    let asked = asked_as p q _ _ c.in-Configure.is c.claim_here-held.ensures.asked in
    let added : HasAdded q r (Finish q.number ∷ []) = subst (λ (t : Turn). HasAdded (known_after board_meant t.known y) (known_after board_meant t.known z) (Finish t.known.number ∷ [])) c.claim_here-held.ensures.turn c.configure_here.ensures.added in
    ran_worked p q r asked.1 added

pub copy_here-requires-clause-ticket : goal.copy_here-requires-clause-ticket
copy_here-requires-clause-ticket g c =
    let k = c.args.held.turn.known in
    let y = c.claim_here-held.result.0.state.value in
    let asked = asked_as (known_after board_meant k c.args.held.state.value) (known_after board_meant k y) _ _ c.in-Copy.is c.claim_here-held.ensures.asked in
    asked.0 ∙ sym (ap (λ (t : Turn). t.known.number) c.claim_here-held.ensures.turn)

pub copy_here-requires-clause-claimed : goal.copy_here-requires-clause-claimed
copy_here-requires-clause-claimed g c =
    let k = c.args.held.turn.known in
    let y = c.claim_here-held.result.0.state.value in
    let asked = asked_as (known_after board_meant k c.args.held.state.value) (known_after board_meant k y) _ _ c.in-Copy.is c.claim_here-held.ensures.asked in
    subst (λ (t : Turn). HasClaimed (known_after board_meant t.known y) (Some c.in-Copy.frame.places) (IsToCopy c.in-Copy.node c.in-Copy.frame)) (sym c.claim_here-held.ensures.turn) asked.2

pub returns-in-Copy-clause-worked : goal.returns-in-Copy-clause-worked
returns-in-Copy-clause-worked g c =
    let k = c.args.held.turn.known in
    let y = c.claim_here-held.result.0.state.value in
    let z = c.copy_here.result.state.value in
    let p = known_after board_meant k c.args.held.state.value in
    let q = known_after board_meant k y in
    let r = known_after board_meant k z in
    let asked = asked_as p q _ _ c.in-Copy.is c.claim_here-held.ensures.asked in
    let added : HasAdded q r (Finish q.number ∷ []) = subst (λ (t : Turn). HasAdded (known_after board_meant t.known y) (known_after board_meant t.known z) (Finish t.known.number ∷ [])) c.claim_here-held.ensures.turn c.copy_here.ensures.added in
    ran_worked p q r asked.1 added

pub compile_here-requires-clause-ticket : goal.compile_here-requires-clause-ticket
compile_here-requires-clause-ticket g c =
    let k = c.args.held.turn.known in
    let y = c.claim_here-held.result.0.state.value in
    let asked = asked_as (known_after board_meant k c.args.held.state.value) (known_after board_meant k y) _ _ c.in-Compile.is c.claim_here-held.ensures.asked in
    asked.0 ∙ sym (ap (λ (t : Turn). t.known.number) c.claim_here-held.ensures.turn)

pub compile_here-requires-clause-claimed : goal.compile_here-requires-clause-claimed
compile_here-requires-clause-claimed g c =
    let k = c.args.held.turn.known in
    let y = c.claim_here-held.result.0.state.value in
    let asked = asked_as (known_after board_meant k c.args.held.state.value) (known_after board_meant k y) _ _ c.in-Compile.is c.claim_here-held.ensures.asked in
    subst (λ (t : Turn). HasClaimed (known_after board_meant t.known y) None (IsToCompile c.in-Compile.task)) (sym c.claim_here-held.ensures.turn) asked.2

pub returns-in-Compile-clause-worked : goal.returns-in-Compile-clause-worked
returns-in-Compile-clause-worked g c =
    let k = c.args.held.turn.known in
    let y = c.claim_here-held.result.0.state.value in
    let z = c.compile_here.result.state.value in
    let p = known_after board_meant k c.args.held.state.value in
    let q = known_after board_meant k y in
    let r = known_after board_meant k z in
    let asked = asked_as p q _ _ c.in-Compile.is c.claim_here-held.ensures.asked in
    let added : HasAdded q r (Finish q.number ∷ []) = subst (λ (t : Turn). HasAdded (known_after board_meant t.known y) (known_after board_meant t.known z) (Finish t.known.number ∷ [])) c.claim_here-held.ensures.turn c.compile_here.ensures.added in
    ran_worked p q r asked.1 added

pub returns-in-Wait-clause-worked : goal.returns-in-Wait-clause-worked
returns-in-Wait-clause-worked g c =
    let k = c.args.held.turn.known in
    let y = c.claim_here-held.result.0.state.value in
    let p = known_after board_meant k c.args.held.state.value in
    let q = known_after board_meant k y in
    waited_worked p q (asked_as p q _ _ c.in-Wait.is c.claim_here-held.ensures.asked)

pub returns-in-Finished-clause-worked : goal.returns-in-Finished-clause-worked
returns-in-Finished-clause-worked g c =
    let k = c.args.held.turn.known in
    let y = c.claim_here-held.result.0.state.value in
    let p = known_after board_meant k c.args.held.state.value in
    let q = known_after board_meant k y in
    waited_worked p q (asked_as p q _ _ c.in-Finished.is c.claim_here-held.ensures.asked).0

pub returns-in-Finished-clause-over : goal.returns-in-Finished-clause-over
returns-in-Finished-clause-over g c =
    let k = c.args.held.turn.known in
    let y = c.claim_here-held.result.0.state.value in
    let p = known_after board_meant k c.args.held.state.value in
    let q = known_after board_meant k y in
    inr (asked_as p q _ _ c.in-Finished.is c.claim_here-held.ensures.asked).1

pub returns-in-Starved-clause-worked : goal.returns-in-Starved-clause-worked
returns-in-Starved-clause-worked g c =
    let k = c.args.held.turn.known in
    let y = c.claim_here-held.result.0.state.value in
    let p = known_after board_meant k c.args.held.state.value in
    let q = known_after board_meant k y in
    waited_worked p q (asked_as p q _ _ c.in-Starved.is c.claim_here-held.ensures.asked).0

pub returns-in-Starved-clause-over : goal.returns-in-Starved-clause-over
returns-in-Starved-clause-over g c =
    let k = c.args.held.turn.known in
    let y = c.claim_here-held.result.0.state.value in
    let p = known_after board_meant k c.args.held.state.value in
    let q = known_after board_meant k y in
    inl (asked_as p q _ _ c.in-Starved.is c.claim_here-held.ensures.asked).1
