use Rattle.std.proofs.Common.{◌≡◌, map, take}
use Rattle.pisdf_model.specs.Hold.{capped_hold, own_hold}
use Rattle.pisdf_model.proofs.state_tokens.own_holds.Given as goal

abbrev pub invariant-loop-graph : goal.invariant-loop-graph
invariant-loop-graph l = l.own.items ≡ map (λ g. capped_hold (own_hold g)) (take l.graph-index l.graphs)
