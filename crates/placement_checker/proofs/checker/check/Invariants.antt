use Rattle.std.proofs.Common.{ℕ, ◌<◌, length}
use Rattle.placement_checker.specs.Clashes.{Clashes}
use Rattle.placement_checker.proofs.checker.check.Given as goal

-- no pair before e clashes
abbrev pub invariant-loop-e : goal.invariant-loop-e
invariant-loop-e g l =
    (c h : ℕ) → c < l.e → h < length l.sizes → Clashes l.sizes (g.X.Exclusion.excludes l.exclusion) l.offsets l.height c h → ⊥
