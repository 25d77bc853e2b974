use Rattle.std.proofs.Common.{arith}
use Rattle.memory_exclusion.proofs.Closing.{none_dropped, closure_of}
use Rattle.memory_exclusion.proofs.closure.drop_own.Goals as goal

pub loop-e-init : goal.loop-e-init
loop-e-init c = none_dropped c.args.edges.now c.args.width c.args.rows.now

pub returns : goal.returns
returns c =
    closure_of c.args.edges.now c.args.width c.args.rows.now c.loop-e.rows c.requires.wide c.requires.rising.0 c.requires.rising.1 c.loop-e.e (let last = c.loop-e.auto.e-end in omega arith) c.requires.closed c.loop-e.invariant
