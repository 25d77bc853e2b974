use Rattle.std.proofs.Common.{◌+◌, ◌*◌}
use Rattle.param_resolver.specs.EarlyCheck.{check_to}
use Rattle.param_resolver.proofs.Configuring.{Configures}
use Rattle.param_resolver.proofs.configuration.+checking.Given as goal

abbrev pub decreases-add_child : goal.decreases-add_child
decreases-add_child l = 5 * l.levels + 1

abbrev pub decreases-add_actor : goal.decreases-add_actor
decreases-add_actor l = 5 * l.levels + 2

abbrev pub decreases-add_actors : goal.decreases-add_actors
decreases-add_actors l = 5 * l.levels + 3

abbrev pub decreases-check_graph : goal.decreases-check_graph
decreases-check_graph l = 5 * l.levels + 4

abbrev pub decreases-early_within : goal.decreases-early_within
decreases-early_within l = 5 * l.levels

abbrev pub invariant-add_actors-loop-number : goal.invariant-add_actors-loop-number
invariant-add_actors-loop-number l = Configures (check_to l.levels l.graphs) l.graphs l.graph l.numbers l.inputs l.number l.configured.args.items l.configured.outs.items l.configured.children.items
