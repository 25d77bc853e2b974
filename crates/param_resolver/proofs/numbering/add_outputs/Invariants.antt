use Rattle.std.proofs.Common.{◌≡◌, ◌++◌, take}
use Rattle.std.specs.List.{flat_map}
use Rattle.param_resolver.proofs.numbering.add_outputs.Given as goal

abbrev pub invariant-loop-outs : goal.invariant-loop-outs
invariant-loop-outs l = l.rates.items ≡ l.fn.rates.items ++ flat_map (λ outs. outs) (take l.outs-index l.outs-items)
