use Rattle.std.proofs.Common.{◌≡◌, ℕ, ◌+◌, length, sym, subst, arith}
use Rattle.audit_job.specs.Candidates.{Adds}
use Rattle.audit_job.proofs.AddedSoFar.{AddsSoFar, IsFree, added_to, none_so_far, nothing_so_far, one_so_far}
use Rattle.audit_job.proofs.candidates.add_free.Goals as goal
use Rattle.audit_job.proofs.candidates.add_free.Goals.{then-waits-node-eq0, else-waits-node-eq0}

pub loop-node-init : goal.loop-node-init
loop-node-init c = nothing_so_far c.args.first c.args.waits.now c.reserve.new.self (let room = c.in_ok-reserve.ensures.ok in omega (arith, c.reserve.new.self.ok.0))

pub loop-node-preserved : goal.loop-node-preserved
loop-node-preserved c =
    let so_far = c.loop-node.invariant in
    elim c.if-waits-node-eq0.branch [
      | then-waits-node-eq0 w ↦
          subst (λ v. AddsSoFar c.args.first (c.loop-node.node + 1) c.args.waits.now c.reserve.new.self v) (sym w.candidates-is)
          (one_so_far c.args.first c.loop-node.node c.args.waits.now c.reserve.new.self c.loop-node.candidates so_far c.loop-node-test.true w.if-waits-node-eq0.true w.push_reserved.new.self w.push_reserved.ensures.items w.push_reserved.ensures.capacity)
      | else-waits-node-eq0 w ↦
          subst (λ v. AddsSoFar c.args.first (c.loop-node.node + 1) c.args.waits.now c.reserve.new.self v) (sym w.candidates-is)
          (none_so_far c.args.first c.loop-node.node c.args.waits.now c.reserve.new.self c.loop-node.candidates so_far c.loop-node-test.true w.if-waits-node-eq0.false)
    ]

pub returns-clause-added : goal.returns-clause-added
returns-clause-added c =
    let all : c.loop-node.node ≡ length c.args.waits.now = omega arith in
    added_to c.args.first (length c.args.waits.now) (IsFree c.args.waits.now) c.args.candidates.now c.reserve.new.self c.loop-node.candidates c.reserve.ensures.items
    (subst (λ (k : ℕ). Adds c.args.first k (IsFree c.args.waits.now) c.reserve.new.self c.loop-node.candidates) all c.loop-node.invariant.added)
