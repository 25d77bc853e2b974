use Rattle.std.proofs.Common.{slice_index, ap, sym, ◌∙◌, arith}
use Rattle.graph_firing.specs.Places.{config_places}
use Rattle.graph_firing.specs.View.{OpenView, graph_in}
use Rattle.graph_firing.proofs.Paths.{above, actor_step, call_apart, place_few, step_is, step_ok}
use Rattle.graph_firing.proofs.job.OpenJob.step.Goals as goal

pub overflow_cast-result : goal.overflow_cast-result
overflow_cast-result c =
    let i = c.self.inside in
    let few = place_few i.configuring i.workers i.stage c.self.invariant c.args.self.now c.self.view_is c.args.item c.config_place.result (omega (arith, c.count-compilation.ensures, c.if-item-compilation.true)) (c.config_place.ensures ∙ ap (λ (x : OpenView). slice_index (config_places (graph_in x)) c.args.item) (sym c.self.view_is)) in
    omega (arith, few)

pub returns-then-item-compilation : goal.returns-then-item-compilation
returns-then-item-compilation c =
    let i = c.self.inside in
    actor_step i.configuring i.workers i.stage c.self.invariant c.args.self.now c.self.view_is c.args.item c.config_place.result (omega (arith, c.count-compilation.ensures, c.if-item-compilation.true)) (c.config_place.ensures ∙ ap (λ (x : OpenView). slice_index (config_places (graph_in x)) c.args.item) (sym c.self.view_is))

pub overflow_sub-item-else-item-compilation : goal.overflow_sub-item-else-item-compilation
overflow_sub-item-else-item-compilation c =
    let i = c.self.inside in
    above i.configuring i.workers i.stage c.self.invariant c.args.self.now c.self.view_is c.args.item c.count-compilation.result c.count-compilation.ensures c.if-item-compilation.false (call_apart i.configuring i.workers i.stage c.self.invariant c.args.self.now c.self.view_is c.args.item c.requires)

pub node_step-requires : goal.node_step-requires
node_step-requires c =
    let i = c.self.inside in
    step_ok i.configuring i.workers i.stage c.self.invariant c.args.self.now c.self.view_is c.args.item c.count-compilation.result c.count-compilation.ensures c.if-item-compilation.false (call_apart i.configuring i.workers i.stage c.self.invariant c.args.self.now c.self.view_is c.args.item c.requires) c.requires

pub returns-else-item-compilation : goal.returns-else-item-compilation
returns-else-item-compilation c =
    let i = c.self.inside in
    step_is i.configuring i.workers i.stage c.self.invariant c.args.self.now c.self.view_is c.args.item c.count-compilation.result c.count-compilation.ensures c.if-item-compilation.false (call_apart i.configuring i.workers i.stage c.self.invariant c.args.self.now c.self.view_is c.args.item c.requires) c.node_step.result c.node_step.ensures
