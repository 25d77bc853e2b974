use Rattle.std.proofs.Common.{◌≡◌, take, drop, ◌++◌}
use Rattle.kernel_gate.specs.Value.{port}
use Rattle.kernel_set.proofs.configured.read_param.Given as goal

abbrev pub invariant-loop-n : goal.invariant-loop-n
invariant-loop-n l = l.frame ≡ record l.fn.frame { sets = take l.n (port l.fn.frame.inputs 0) ++ drop l.n l.fn.frame.sets }
