use Rattle.single_rate.proofs.Snocs.{firings-pushed}
use Rattle.single_rate.proofs.expansion.add_firings.Goals as goal

pub loop-turn-preserved : goal.loop-turn-preserved
loop-turn-preserved c = firings-pushed c.args.firings.actor c.args.firings.port c.args.firings.rate c.loop-turn.turn c.args.parts.now.items c.loop-turn.parts.items c.push.new.self.items c.in_ok-push.ensures.items c.loop-turn.invariant
