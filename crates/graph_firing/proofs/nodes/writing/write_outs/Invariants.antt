use Rattle.std.proofs.Common.{◌≡◌, ◌++◌, take, drop}
use Rattle.graph_firing.proofs.nodes.writing.write_outs.Given as goal

abbrev pub invariant-loop-port : goal.invariant-loop-port
invariant-loop-port l = l.frame ≡ record l.initial.frame { outputs = take l.port l.outs ++ drop l.port l.initial.frame.outputs }
