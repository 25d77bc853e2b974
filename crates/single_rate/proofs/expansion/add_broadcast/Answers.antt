use Rattle.std.proofs.Common.{arith}
use Rattle.single_rate.proofs.Snocs.{broadcast-pushed}
use Rattle.single_rate.proofs.expansion.add_broadcast.Goals as goal

pub loop-turn-preserved : goal.loop-turn-preserved
loop-turn-preserved c = (grind arith, broadcast-pushed c.args.link c.args.into.actor c.args.into.port c.args.into.rate c.loop-turn.turn c.loop-turn.place c.args.wires.now.items c.loop-turn.wires.items c.push.new.self.items c.loop-turn.invariant.0 c.in_ok-push.ensures.items c.loop-turn.invariant.1)
