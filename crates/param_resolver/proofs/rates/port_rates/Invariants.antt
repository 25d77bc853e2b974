use Rattle.std.specs.Result.{result_unwrap_or}
use Rattle.pisdf_model.specs.Wires.{port_text}
use Rattle.pisdf_model.specs.declared.actor.Port.{Port}
use Rattle.param_resolver.specs.Rates.{fault_at, rate_under}
use Rattle.param_resolver.proofs.Walks.{Walks}
use Rattle.param_resolver.proofs.rates.port_rates.Given as goal

abbrev pub invariant-loop-port : goal.invariant-loop-port
invariant-loop-port l = Walks (λ k (p : Port). fault_at (port_text l.actor p.name) (rate_under l.numbers p.rate)) (λ (p : Port). result_unwrap_or (rate_under l.numbers p.rate) 0) l.port-index l.ports l.rates.items
