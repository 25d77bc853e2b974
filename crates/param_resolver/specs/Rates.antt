-- Rates and arguments under the values of parameters: their numbers, their names, and their faults.
use Rattle.std.specs.Prelude.{ℕ, nat_le, ℤ, pos, negsuc, List, [], ◌∷◌, ◌++◌, codes, map, Result, Ok, Err, if◌then◌else◌}
use Rattle.std.specs.Fmt.{decimal}
use Rattle.std.specs.Result.{result_unwrap_or}
use Rattle.param_expr.specs.Eval.{eval_of}
use Rattle.param_expr.specs.Tree.{Tree}
use Rattle.param_expr.specs.declared.evaluation.EvalFault.{EvalFault}
use Rattle.pisdf_model.specs.Details.{of_each}
use Rattle.pisdf_model.specs.Wires.{port_text}
use Rattle.pisdf_model.specs.declared.actor.Port.{Port}
use Rattle.pisdf_model.specs.declared.graph.Interface.{Interface}
use Rattle.sdf_level.specs.Invariants.{rate_limit}
use Rattle.param_resolver.specs.Assignment.{why_of}
use Rattle.param_resolver.specs.Refusal.{Refusal, rate}
use Rattle.param_resolver.specs.declared.fault.Why.{Why}
use Rattle.param_resolver.specs.declared.fault.Why.TheVariants.{Value}

-- a rate is a whole number from 0 to its limit
abbrev pub as_rate : Result ℤ EvalFault → Result ℕ Why
as_rate (Ok (pos n)) = if nat_le n rate_limit then Ok n else Err (Value (pos n))
as_rate (Ok (negsuc n)) = Err (Value (negsuc n))
as_rate (Err fault) = Err (why_of fault)

-- an argument is any value
abbrev pub as_arg : Result ℤ EvalFault → Result ℤ Why
as_arg (Ok value) = Ok value
as_arg (Err fault) = Err (why_of fault)

abbrev pub rate_under : List ℤ → Tree → Result ℕ Why
rate_under values expr = as_rate (eval_of values expr)

abbrev pub arg_under : List ℤ → Tree → Result ℤ Why
arg_under values expr = as_arg (eval_of values expr)

-- ---- the numbers, 0 in place of those that have a fault

abbrev pub interface_rates : List ℤ → List Interface → List ℕ
interface_rates values interfaces = map (λ (x : Interface). result_unwrap_or (rate_under values x.rate) 0) interfaces

abbrev pub port_rates : List ℤ → List Port → List ℕ
port_rates values ports = map (λ (p : Port). result_unwrap_or (rate_under values p.rate) 0) ports

abbrev pub arg_values : List ℤ → List Tree → List ℤ
arg_values values args = map (λ e. result_unwrap_or (arg_under values e) (pos 0)) args

-- ---- the faults

abbrev pub fault_at : {T : Type 0} → List ℕ → Result T Why → List Refusal
fault_at name (Ok value) = []
fault_at name (Err why) = rate name why ∷ []

-- `a[0]`
abbrev pub arg_name : List ℕ → ℕ → List ℕ
arg_name actor k = actor ++ (codes "[" ++ (decimal k ++ codes "]"))

abbrev pub interface_faults : List ℤ → List Interface → List Refusal
interface_faults values interfaces = of_each (λ k (x : Interface). fault_at x.name (rate_under values x.rate)) interfaces

abbrev pub port_faults : List ℤ → List ℕ → List Port → List Refusal
port_faults values actor ports = of_each (λ k (p : Port). fault_at (port_text actor p.name) (rate_under values p.rate)) ports

abbrev pub arg_faults : List ℤ → List ℕ → List Tree → List Refusal
arg_faults values actor args = of_each (λ k e. fault_at (arg_name actor k) (arg_under values e)) args
