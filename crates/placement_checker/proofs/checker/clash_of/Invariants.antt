use Rattle.std.proofs.Common.{ℕ, ◌<◌}
use Rattle.placement_checker.specs.Clashes.{Clashes}
use Rattle.placement_checker.proofs.checker.clash_of.Given as goal

-- nothing before f clashes with e
abbrev pub invariant-loop-f : goal.invariant-loop-f
invariant-loop-f g l =
    (h : ℕ) → h < l.f → Clashes l.sizes (g.X.Exclusion.excludes l.exclusion) l.offsets l.height l.e h → ⊥
