use Rattle.std.proofs.Common.{◌≡◌, inl, inr, subst}
use Rattle.firing_board.specs.declared.claim.Claim.{Claim}
use Rattle.worker_crew.specs.Asked.{Asked}
use Rattle.worker_crew.specs.Passes.{BoardPass}
use Rattle.worker_crew.proofs.Advancing.{added_same, asked_on, later_on, may_later, ran_on, waited_worked, worked_idle_at, worked_on, worked_same}
use Rattle.worker_crew.proofs.working.work.Goals as goal

-- what was asked for is this
asked_as : (p q : BoardPass) (b c : Claim) → b ≡ c → Asked p q b → Asked p q c
asked_as p q b c same asked = subst (λ (x : Claim). Asked p q x) same asked

pub loop-init : goal.loop-init
loop-init g c = record { can_next = tt; is_finite = tt; lock = c.requires.lock; asked = record { between = c.args.pass.known; worked = worked_same c.args.pass.known; asked = added_same c.args.pass.known } }

pub fire-requires-clause-ticket : goal.fire-requires-clause-ticket
fire-requires-clause-ticket g c = (asked_as c.loop.invariant.asked.between c.loop.pass.known _ _ c.in-Fire.is c.loop.invariant.asked.asked).0

pub fire-requires-clause-claimed : goal.fire-requires-clause-claimed
fire-requires-clause-claimed g c = (asked_as c.loop.invariant.asked.between c.loop.pass.known _ _ c.in-Fire.is c.loop.invariant.asked.asked).2

pub fire-requires-clause-may : goal.fire-requires-clause-may
fire-requires-clause-may g c =
    let asked = asked_as c.loop.invariant.asked.between c.loop.pass.known _ _ c.in-Fire.is c.loop.invariant.asked.asked in
    may_later _ c.args.pass.known c.loop.pass.known (later_on c.args.pass.known c.loop.invariant.asked.between c.loop.pass.known c.loop.invariant.asked.worked.later asked.1.2.later) c.requires.may

pub loop-preserved-in-Fire : goal.loop-preserved-in-Fire
loop-preserved-in-Fire g c =
    let asked = asked_as c.loop.invariant.asked.between c.loop.pass.known _ _ c.in-Fire.is c.loop.invariant.asked.asked in
    let ran = ran_on c.loop.invariant.asked.between c.loop.pass.known _ _ asked.1 c.fire.ensures.asked in
    record { can_next = tt; is_finite = tt; lock = c.fire.ensures.lock; asked = asked_on c.args.pass.known c.loop.invariant.asked.between _ _ c.loop.invariant.asked.worked ran }

pub configure-requires-clause-ticket : goal.configure-requires-clause-ticket
configure-requires-clause-ticket g c = (asked_as c.loop.invariant.asked.between c.loop.pass.known _ _ c.in-Configure.is c.loop.invariant.asked.asked).0

pub configure-requires-clause-claimed : goal.configure-requires-clause-claimed
configure-requires-clause-claimed g c = (asked_as c.loop.invariant.asked.between c.loop.pass.known _ _ c.in-Configure.is c.loop.invariant.asked.asked).2

pub configure-requires-clause-may : goal.configure-requires-clause-may
configure-requires-clause-may g c =
    let asked = asked_as c.loop.invariant.asked.between c.loop.pass.known _ _ c.in-Configure.is c.loop.invariant.asked.asked in
    may_later _ c.args.pass.known c.loop.pass.known (later_on c.args.pass.known c.loop.invariant.asked.between c.loop.pass.known c.loop.invariant.asked.worked.later asked.1.2.later) c.requires.may

pub loop-preserved-in-Configure : goal.loop-preserved-in-Configure
loop-preserved-in-Configure g c =
    let asked = asked_as c.loop.invariant.asked.between c.loop.pass.known _ _ c.in-Configure.is c.loop.invariant.asked.asked in
    let ran = ran_on c.loop.invariant.asked.between c.loop.pass.known _ _ asked.1 c.configure.ensures.asked in
    record { can_next = tt; is_finite = tt; lock = c.configure.ensures.lock; asked = asked_on c.args.pass.known c.loop.invariant.asked.between _ _ c.loop.invariant.asked.worked ran }

pub copy-requires-clause-ticket : goal.copy-requires-clause-ticket
copy-requires-clause-ticket g c = (asked_as c.loop.invariant.asked.between c.loop.pass.known _ _ c.in-Copy.is c.loop.invariant.asked.asked).0

pub copy-requires-clause-claimed : goal.copy-requires-clause-claimed
copy-requires-clause-claimed g c = (asked_as c.loop.invariant.asked.between c.loop.pass.known _ _ c.in-Copy.is c.loop.invariant.asked.asked).2

pub loop-preserved-in-Copy : goal.loop-preserved-in-Copy
loop-preserved-in-Copy g c =
    let asked = asked_as c.loop.invariant.asked.between c.loop.pass.known _ _ c.in-Copy.is c.loop.invariant.asked.asked in
    let ran = ran_on c.loop.invariant.asked.between c.loop.pass.known _ _ asked.1 c.copy.ensures.asked in
    record { can_next = tt; is_finite = tt; lock = c.copy.ensures.lock; asked = asked_on c.args.pass.known c.loop.invariant.asked.between _ _ c.loop.invariant.asked.worked ran }

pub compile-requires-clause-ticket : goal.compile-requires-clause-ticket
compile-requires-clause-ticket g c = (asked_as c.loop.invariant.asked.between c.loop.pass.known _ _ c.in-Compile.is c.loop.invariant.asked.asked).0

pub compile-requires-clause-claimed : goal.compile-requires-clause-claimed
compile-requires-clause-claimed g c = (asked_as c.loop.invariant.asked.between c.loop.pass.known _ _ c.in-Compile.is c.loop.invariant.asked.asked).2

pub loop-preserved-in-Compile : goal.loop-preserved-in-Compile
loop-preserved-in-Compile g c =
    let asked = asked_as c.loop.invariant.asked.between c.loop.pass.known _ _ c.in-Compile.is c.loop.invariant.asked.asked in
    let ran = ran_on c.loop.invariant.asked.between c.loop.pass.known _ _ asked.1 c.compile.ensures.asked in
    record { can_next = tt; is_finite = tt; lock = c.compile.ensures.lock; asked = asked_on c.args.pass.known c.loop.invariant.asked.between _ _ c.loop.invariant.asked.worked ran }

pub await_item-requires-clause-may : goal.await_item-requires-clause-may
await_item-requires-clause-may g c =
    let added = asked_as c.loop.invariant.asked.between c.loop.pass.known _ _ c.in-Wait.is c.loop.invariant.asked.asked in
    (_, may_later _ c.args.pass.known c.loop.pass.known (later_on c.args.pass.known c.loop.invariant.asked.between c.loop.pass.known c.loop.invariant.asked.worked.later added.later) c.requires.may)

pub await_item-requires-clause-idle : goal.await_item-requires-clause-idle
await_item-requires-clause-idle g c =
    let added = asked_as c.loop.invariant.asked.between c.loop.pass.known _ _ c.in-Wait.is c.loop.invariant.asked.asked in
    worked_idle_at c.args.pass.known c.loop.pass.known 0 c.requires.may.some (worked_on c.args.pass.known c.loop.invariant.asked.between c.loop.pass.known c.loop.invariant.asked.worked (waited_worked c.loop.invariant.asked.between c.loop.pass.known added)) c.requires.idle

pub loop-preserved : goal.loop-preserved
loop-preserved g c =
    let added = asked_as c.loop.invariant.asked.between c.loop.pass.known _ _ c.in-Wait.is c.loop.invariant.asked.asked in
    let waited = worked_on c.args.pass.known c.loop.invariant.asked.between c.loop.pass.known c.loop.invariant.asked.worked (waited_worked c.loop.invariant.asked.between c.loop.pass.known added) in
    record { can_next = tt; is_finite = tt; lock = c.await_item.ensures.lock; asked = asked_on c.args.pass.known c.loop.pass.known _ _ waited c.await_item.ensures.asked }

pub returns-in-Finished-clause-worked : goal.returns-in-Finished-clause-worked
returns-in-Finished-clause-worked g c =
    let asked = asked_as c.loop.invariant.asked.between c.loop.pass.known _ _ c.in-Finished.is c.loop.invariant.asked.asked in
    worked_on c.args.pass.known c.loop.invariant.asked.between c.loop.pass.known c.loop.invariant.asked.worked (waited_worked c.loop.invariant.asked.between c.loop.pass.known asked.0)

pub returns-in-Finished-clause-over : goal.returns-in-Finished-clause-over
returns-in-Finished-clause-over g c = inr (asked_as c.loop.invariant.asked.between c.loop.pass.known _ _ c.in-Finished.is c.loop.invariant.asked.asked).1

pub returns-in-Starved-clause-worked : goal.returns-in-Starved-clause-worked
returns-in-Starved-clause-worked g c =
    let asked = asked_as c.loop.invariant.asked.between c.loop.pass.known _ _ c.in-Starved.is c.loop.invariant.asked.asked in
    worked_on c.args.pass.known c.loop.invariant.asked.between c.loop.pass.known c.loop.invariant.asked.worked (waited_worked c.loop.invariant.asked.between c.loop.pass.known asked.0)

pub returns-in-Starved-clause-over : goal.returns-in-Starved-clause-over
returns-in-Starved-clause-over g c = inl (asked_as c.loop.invariant.asked.between c.loop.pass.known _ _ c.in-Starved.is c.loop.invariant.asked.asked).1
