use Rattle.std.proofs.Common.{take}
use Rattle.level_laws.specs.Unfolded.{SomeOuter}
use Rattle.unfold_rates.specs.Components.{IsOfComponent}
use Rattle.unfold_rates.proofs.serving.is_served.Given as goal

-- none so far
abbrev pub invariant-loop-link : goal.invariant-loop-link
invariant-loop-link l = SomeOuter (IsOfComponent l.component l.number) l.level (take l.link-index l.level.links) → ⊥
