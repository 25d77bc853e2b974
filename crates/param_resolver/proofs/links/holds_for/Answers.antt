use Rattle.std.proofs.Common.{length}
use Rattle.param_resolver.proofs.Linking.{are_held}
use Rattle.param_resolver.proofs.links.holds_for.Goals as goal

pub returns-then-has_children : goal.returns-then-has_children
returns-then-has_children c = are_held c.args.graphs.now c.in_ok-holds.holds.items (length c.args.graph.now.params) c.args.graph.now.actors c.in_ok-holds.ensures c.requires.there c.requires.few
