use Rattle.std.proofs.Common.{ℕ, ◌≡◌, ◌<◌, arith}
use Rattle.interface_rules.proofs.Needs.{need_some}
use Rattle.interface_rules.proofs.need.least_need.Goals as goal

pub returns : goal.returns
returns c = rw c.div_ceil.ensures (need_some c.args.outside c.args.base c.args.rate (not_none c.args.outside c.if-outside-eq0.false) c.requires.outside c.requires.some (not_none c.args.rate (λ e. c.if-outside-eq0.false (c.requires.agree.1 e))))
  where
    not_none : (n : ℕ) → (n ≡ 0 → ⊥) → 0 < n
    not_none n h = omega arith
