use Rattle.std.proofs.Common.{slice_index, ap, sym, ◌∙◌, arith}
use Rattle.graph_firing.specs.Places.{config_places}
use Rattle.graph_firing.specs.View.{OpenView, graph_in}
use Rattle.graph_firing.proofs.NodeMethods.{claim_ok}
use Rattle.graph_firing.proofs.Paths.{place_few}
use Rattle.graph_firing.proofs.job.OpenJob.number.Goals as goal

pub overflow_cast-result : goal.overflow_cast-result
overflow_cast-result c =
    let i = c.self.inside in
    let few = place_few i.configuring i.workers i.stage c.self.invariant c.args.self.now c.self.view_is c.args.item c.config_place.result (omega (arith, c.count-compilation.ensures, c.if-item-compilation.true)) (c.config_place.ensures ∙ ap (λ (x : OpenView). slice_index (config_places (graph_in x)) c.args.item) (sym c.self.view_is)) in
    omega (arith, few)

pub node_number-requires : goal.node_number-requires
node_number-requires c =
    let i = c.self.inside in
    claim_ok i.configuring i.workers i.stage c.self.invariant c.args.self.now c.self.view_is c.args.item c.count-compilation.result c.count-compilation.ensures c.if-item-compilation.false c.requires.framed c.requires.offered
