use Rattle.std.specs.Result.{result_unwrap_or}
use Rattle.pisdf_model.specs.declared.graph.Interface.{Interface}
use Rattle.param_resolver.specs.Rates.{fault_at, rate_under}
use Rattle.param_resolver.proofs.Walks.{Walks}
use Rattle.param_resolver.proofs.rates.interface_rates.Given as goal

abbrev pub invariant-loop-interface : goal.invariant-loop-interface
invariant-loop-interface l = Walks (λ k (x : Interface). fault_at x.name (rate_under l.numbers x.rate)) (λ (x : Interface). result_unwrap_or (rate_under l.numbers x.rate) 0) l.interface-index l.interfaces l.rates.items
