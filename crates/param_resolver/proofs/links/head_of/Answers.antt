use Rattle.std.proofs.Common.{◌∙◌}
use Rattle.param_resolver.proofs.Linking.{head_acting}
use Rattle.param_resolver.proofs.links.head_of.Goals as goal

pub returns-in-Port : goal.returns-in-Port
returns-in-Port c = λ values ins.
    rw c.in-Port.is (
    head_acting c.args.graphs.now c.args.graph.now c.in-Port.actor c.in-Port.port (rw c.in-Port.is at c.requires.takes) (rw c.in-Port.is at c.requires.kept) c.deref.result.now (c.deref.ensures.value ∙ c.requires.actors) c.number_at-number.result c.number_at-number.ensures values c.args.ins.now ins c.rate_at.result c.rate_at.ensures)
