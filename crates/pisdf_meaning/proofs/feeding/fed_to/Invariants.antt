use Rattle.std.proofs.Common.{◌≡◌}
use Rattle.pisdf_meaning.specs.Configuring.{fed_to}
use Rattle.pisdf_meaning.proofs.feeding.fed_to.Given as goal

abbrev pub invariant-loop-port : goal.invariant-loop-port
invariant-loop-port l = l.lists.items ≡ fed_to l.graph l.inputs l.actor l.port
