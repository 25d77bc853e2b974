use Rattle.std.proofs.Common.{◌≡◌, ◌+◌, ◌++◌, ◌∷◌, [], ℕ, ap, ◌∙◌, subst, arith}
use Rattle.audit_job.specs.Candidates.{Adds}
use Rattle.audit_job.proofs.ItemLists.{next_added, none_added}
use Rattle.audit_job.proofs.candidates.add_first.Goals as goal

pub loop-item-init : goal.loop-item-init
loop-item-init c = none_added 0 0 (λ n. Unit {0}) c.args.candidates.now (λ n below. absurd (omega arith))

pub loop-item-preserved : goal.loop-item-preserved
loop-item-preserved c =
    let n = c.loop-item.item in
    let now = c.loop-item.candidates in
    let e : n ≡ 0 + n = omega arith in
    next_added 0 n (λ k. Unit {0}) c.args.candidates.now now c.loop-item.invariant c.push.new.self (c.in_ok-push.ensures.items ∙ ap (λ (k : ℕ). now.items ++ k ∷ []) e)

pub returns : goal.returns
returns c =
    let all : c.loop-item.item ≡ c.args.count = omega arith in
    subst (λ (k : ℕ). Adds 0 k (λ n. Unit {0}) c.args.candidates.now c.loop-item.candidates) all c.loop-item.invariant
