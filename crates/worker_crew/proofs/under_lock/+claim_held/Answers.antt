use Rattle.std.proofs.Common.{◌-◌, ◌<◌, [], ◌∷◌, sym, ap, ◌∙◌, subst, arith}
use Rattle.kernel_gate.specs.Value.{Places}
use Rattle.board_lock.specs.Passes.{Finds, MayLeave, TurnView, known_after}
use Rattle.board_rules.specs.Keys.{Key}
use Rattle.board_rules.specs.declared.entry.Entry.{Entry}
use Rattle.board_rules.specs.declared.entry.Entry.TheVariants.{Finish}
use Rattle.firing_board.specs.Locking.{board_meant}
use Rattle.firing_board.specs.View.{BoardView}
use Rattle.firing_board.specs.declared.claim.Claim.{Claim}
use Rattle.worker_crew.specs.Asked.{Asked, HasAsked}
use Rattle.worker_crew.specs.Passes.{BoardPass, IsIdleAt, MayWork}
use Rattle.worker_crew.specs.Worked.{HasAdded}
use Rattle.worker_crew.proofs.Advancing.{asked_on, may_later, ran_worked, worked_idle_at, worked_same}
use Rattle.worker_crew.proofs.under_lock.+claim_held.Goals as goal

abbrev Turn : Type 0
Turn = TurnView BoardView Key Entry Places

pub claim_held-requires : goal.claim_held-requires
claim_held-requires t c =
    let k = c.args.held.turn.known in
    let y = c.claim_here-held.result.0.state.value in
    let z = c.copy_here.result.state.value in
    let p = known_after board_meant k c.args.held.state.value in
    let q = known_after board_meant k y in
    let r = known_after board_meant k z in
    let first = ap (λ (t : Turn). t.known) c.claim_here-held.ensures.turn in
    let then = ap (λ (t : Turn). t.known) (c.copy_here.ensures.turn ∙ c.claim_here-held.ensures.turn) in
    let asked = subst (λ (x : Claim). Asked p q x) c.in-Copy.is c.claim_here-held.ensures.asked in
    let added : HasAdded q r (Finish q.number ∷ []) = subst (λ (b : BoardPass). HasAdded (known_after board_meant b y) (known_after board_meant b z) (Finish b.number ∷ [])) first c.copy_here.ensures.added in
    let worked = ran_worked p q r asked.1 added in
    let may = may_later c.requires.may.0 p r worked.later c.requires.may.1 in
    let idle = worked_idle_at p r 0 c.requires.may.1.some worked c.requires.idle in
    let measure = c.decreases in
    let some = c.if-copies-eq0.false in
    let less : c.args.copies - 1 < t = omega arith in
    let leave = subst (λ (t : Turn). MayLeave board_meant t.known t.found z) (sym c.copy_here.ensures.turn) c.copy_here.ensures.leave in
    let found = subst (λ (t : Turn). Finds board_meant (known_after board_meant t.known z) z) (sym c.copy_here.ensures.turn) c.copy_here.ensures.found in
    let here = subst (λ (b : BoardPass). MayWork c.requires.may.0 (known_after board_meant b z)) (sym then) may in
    let still = subst (λ (b : BoardPass). IsIdleAt (known_after board_meant b z) 0) (sym then) idle in
    (less, (leave, (found, ((c.requires.may.0, here), still))))

pub returns-else-not-is_small-clause-asked : goal.returns-else-not-is_small-clause-asked
returns-else-not-is_small-clause-asked t c =
    let k = c.args.held.turn.known in
    let y = c.claim_here-held.result.0.state.value in
    let z = c.copy_here.result.state.value in
    let p = known_after board_meant k c.args.held.state.value in
    let q = known_after board_meant k y in
    let r = known_after board_meant k z in
    let first = ap (λ (t : Turn). t.known) c.claim_here-held.ensures.turn in
    let then = ap (λ (t : Turn). t.known) (c.copy_here.ensures.turn ∙ c.claim_here-held.ensures.turn) in
    let asked = subst (λ (x : Claim). Asked p q x) c.in-Copy.is c.claim_here-held.ensures.asked in
    let added : HasAdded q r (Finish q.number ∷ []) = subst (λ (b : BoardPass). HasAdded (known_after board_meant b y) (known_after board_meant b z) (Finish b.number ∷ [])) first c.copy_here.ensures.added in
    let last = subst (λ (b : BoardPass). HasAsked (known_after board_meant b z) c.claim_held.result.0.known c.claim_held.result.1) then c.claim_held.ensures.asked in
    asked_on p r _ _ (ran_worked p q r asked.1 added) last

pub returns-in_default : goal.returns-in_default
returns-in_default t c =
    let k = c.args.held.turn.known in
    let y = c.claim_here-held.result.0.state.value in
    let p = known_after board_meant k c.args.held.state.value in
    let known = c.leave-in_default.ensures.known ∙ ap (λ (t : Turn). known_after board_meant t.known y) c.claim_here-held.ensures.turn in
    record {
      lock = c.leave-in_default.ensures.lock ∙ ap (λ (t : Turn). t.lock) c.claim_here-held.ensures.turn;
      asked = record { between = p; worked = worked_same p; asked = subst (λ (b : BoardPass). Asked p b c.claim_here-held.result.1) (sym known) c.claim_here-held.ensures.asked };
    }
