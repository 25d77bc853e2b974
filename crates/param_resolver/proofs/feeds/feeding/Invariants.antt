use Rattle.std.proofs.Common.{◌≡◌, drop}
use Rattle.param_resolver.specs.EarlyCheck.{feeding}
use Rattle.param_resolver.proofs.feeds.feeding.Given as goal

abbrev pub invariant-loop-fifo : goal.invariant-loop-fifo
invariant-loop-fifo l = feeding (drop l.fifo-index l.fifos) l.actor l.port ≡ feeding l.fifos l.actor l.port
