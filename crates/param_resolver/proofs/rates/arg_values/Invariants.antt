use Rattle.std.proofs.Common.{pos}
use Rattle.std.specs.Result.{result_unwrap_or}
use Rattle.param_resolver.specs.Rates.{arg_name, arg_under, fault_at}
use Rattle.param_resolver.proofs.Walks.{Walks}
use Rattle.param_resolver.proofs.rates.arg_values.Given as goal

abbrev pub invariant-loop-number : goal.invariant-loop-number
invariant-loop-number l = Walks (λ k e. fault_at (arg_name l.actor k) (arg_under l.numbers e)) (λ e. result_unwrap_or (arg_under l.numbers e) (pos 0)) l.number l.args l.values.items
