use Rattle.std.proofs.Common.{◌∙◌}
use Rattle.param_resolver.proofs.Linking.{actor_read, one_state}
use Rattle.param_resolver.proofs.links.add_state.Goals as goal

pub returns-clause-links : goal.returns-clause-links
returns-clause-links c =
    let state = c.held_by-state.ensures ∙ c.requires.held in
    let own = c.number_at-own.ensures ∙ actor_read c.args.graphs.now c.args.graph.now c.deref.result.now (c.deref.ensures.value ∙ c.requires.actors) c.args.number c.requires.there in
    c.in_ok-push.ensures.items ∙ one_state c.args.graphs.now c.args.graph.now c.args.number c.args.actor.now c.held_by-state.result c.state_link.result c.args.links.now.links.items state c.if-state-eq0.false (c.state_link.ensures c.args.graph.now c.args.number own state)
