use Rattle.std.proofs.Common.{subst}
use Rattle.firing_board.specs.declared.claim.Claim.{Claim}
use Rattle.worker_crew.specs.Asked.{Asked}
use Rattle.worker_crew.proofs.Advancing.{asked_on, may_later, waited_worked, worked_idle_at, worked_on, worked_same}
use Rattle.worker_crew.proofs.asking.await_item.Goals as goal

pub loop-init : goal.loop-init
loop-init g c = record { can_next = tt; is_finite = tt; lock = c.requires.lock; worked = worked_same c.args.pass.known }

pub ask-next-requires-clause-may : goal.ask-next-requires-clause-may
ask-next-requires-clause-may g c = (c.requires.may.0, may_later c.requires.may.0 c.args.pass.known c.loop.pass.known c.loop.invariant.worked.later c.requires.may.1)

pub ask-next-requires-clause-idle : goal.ask-next-requires-clause-idle
ask-next-requires-clause-idle g c = worked_idle_at c.args.pass.known c.loop.pass.known 0 c.requires.may.1.some c.loop.invariant.worked c.requires.idle

pub loop-preserved : goal.loop-preserved
loop-preserved g c =
    let asked = c.ask-next.ensures.asked in
    let p = c.args.pass.known in
    let q = c.loop.pass.known in
    let r = c.ask-next.result.0.known in
    let waited = subst (λ (x : Claim). Asked asked.between r x) c.in-Wait.is asked.asked in
    record {
      can_next = tt;
      is_finite = tt;
      lock = c.ask-next.ensures.lock;
      worked = worked_on p q r c.loop.invariant.worked (worked_on q asked.between r asked.worked (waited_worked asked.between r waited));
    }

pub returns-in_default : goal.returns-in_default
returns-in_default g c = record { lock = c.ask-next.ensures.lock; asked = asked_on c.args.pass.known c.loop.pass.known _ _ c.loop.invariant.worked c.ask-next.ensures.asked }
