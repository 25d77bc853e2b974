use Rattle.std.proofs.Common.{◌∙◌}
use Rattle.param_resolver.specs.LevelOf.{fifo_links}
use Rattle.param_resolver.specs.Tables.{fifo_origins}
use Rattle.param_resolver.proofs.Linking.{more_behind}
use Rattle.param_resolver.proofs.links.add_fifos.Goals as goal

pub loop-number-preserved : goal.loop-number-preserved
loop-number-preserved c =
    let below = rw c.items-fifo-items.ensures at c.loop-number-test.true in
    let is = rw c.items-fifo-items.ensures at c.fifo-item.is in
    record {
      links = λ values ins outs. c.in_ok-add_fifo.ensures.links values ins outs ∙ more_behind (λ i f. fifo_links c.args.graphs.now c.args.graph.now values f) c.args.graph.now.fifos c.loop-number.number c.fifo-item.result c.args.links.now.links.items c.loop-number.links.links.items below is (c.loop-number.invariant.links values ins outs);
      origins = c.in_ok-add_fifo.ensures.origins ∙ more_behind (λ i f. fifo_origins c.args.graph.now i f) c.args.graph.now.fifos c.loop-number.number c.fifo-item.result c.args.links.now.origins.items c.loop-number.links.origins.items below is c.loop-number.invariant.origins;
    }
