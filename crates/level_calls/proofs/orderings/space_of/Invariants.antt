use Rattle.std.proofs.Common.{◌≡◌, take}
use Rattle.std.specs.List.{sum_by}
use Rattle.sdf_level.specs.declared.single_rate.Edge.{Edge}
use Rattle.level_calls.proofs.orderings.space_of.Given as goal

abbrev pub invariant-loop-edge : goal.invariant-loop-edge
invariant-loop-edge l = l.space ≡ sum_by (λ (e : Edge). e.size) (take l.edge-index l.edges)
