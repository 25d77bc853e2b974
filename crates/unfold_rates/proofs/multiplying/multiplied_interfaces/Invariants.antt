use Rattle.std.proofs.Common.{◌≡◌, map, take}
use Rattle.unfold_rates.specs.Multiplied.{multiplied_interface}
use Rattle.unfold_rates.proofs.multiplying.multiplied_interfaces.Given as goal

abbrev pub invariant-loop-interface : goal.invariant-loop-interface
invariant-loop-interface l = l.list.items ≡ map (multiplied_interface l.times) (take l.interface-index l.interfaces)
