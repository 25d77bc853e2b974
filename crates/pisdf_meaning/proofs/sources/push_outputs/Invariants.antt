use Rattle.std.proofs.Common.{◌≡◌, ◌++◌, take}
use Rattle.std.specs.List.{flat_map}
use Rattle.pisdf_meaning.specs.declared.firing.Configured.{Configured}
use Rattle.pisdf_meaning.proofs.sources.push_outputs.Given as goal

abbrev pub invariant-loop-one : goal.invariant-loop-one
invariant-loop-one l = l.sources.items ≡ l.initial.sources.items ++ flat_map (λ (one : Configured). one.outs) (take l.one-index l.configured)
