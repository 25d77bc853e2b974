use Rattle.std.proofs.Common.{◌∙◌}
use Rattle.param_resolver.specs.LevelOf.{state_links}
use Rattle.param_resolver.specs.Tables.{state_origins}
use Rattle.param_resolver.proofs.Linking.{more_behind}
use Rattle.param_resolver.proofs.links.add_states.Goals as goal

pub loop-number-preserved : goal.loop-number-preserved
loop-number-preserved c =
    let below = rw c.items-actor-items.ensures at c.loop-number-test.true in
    let is = rw c.items-actor-items.ensures at c.actor-item.is in
    record {
      links = c.in_ok-add_state.ensures.links ∙ more_behind (λ a x. state_links c.args.graphs.now c.args.graph.now a x) c.args.graph.now.actors c.loop-number.number c.actor-item.result c.args.links.now.links.items c.loop-number.links.links.items below is c.loop-number.invariant.links;
      origins = c.in_ok-add_state.ensures.origins ∙ more_behind (λ a x. state_origins c.args.graphs.now a x) c.args.graph.now.actors c.loop-number.number c.actor-item.result c.args.links.now.origins.items c.loop-number.links.origins.items below is c.loop-number.invariant.origins;
    }
