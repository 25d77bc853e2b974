use Rattle.std.specs.Arc.{arc_value}
use Rattle.graph_firing.proofs.Opened.{keeps_start}
use Rattle.graph_firing.proofs.opening.open.Goals as goal

pub invariant_of-result : goal.invariant_of-result
invariant_of-result c =
    let made = c.in_ok-configuring.ensures in
    keeps_start (arc_value c.args.graphs) c.args.workers c.args.firing c.in_ok-configuring.configuring made.made_of.0 made.made_of.1 c.requires.valid c.requires.fit c.requires.some made.free made.lent
