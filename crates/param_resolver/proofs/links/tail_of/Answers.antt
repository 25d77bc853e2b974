use Rattle.std.proofs.Common.{◌∙◌, ap, sym, arith}
use Rattle.pisdf_model.specs.InterfaceWires.{is_configuration}
use Rattle.pisdf_model.specs.Parts.{input_count}
use Rattle.pisdf_model.specs.declared.actor.Actor.{Actor}
use Rattle.param_resolver.proofs.Linking.{source_fits, tail_acting, tail_config, tail_input}
use Rattle.param_resolver.proofs.links.tail_of.Goals as goal

pub overflow_add-result : goal.overflow_add-result
overflow_add-result c =
    let fits = source_fits c.args.graphs.now c.args.graph.now c.in-Port.actor c.in-Port.port (rw c.in-Port.is at c.requires.gives) c.items.result.now c.items.ensures c.index-items-place.result c.index-items-place.is
    (ap (λ (x : Actor). is_configuration x.body) c.index-items-place.is ∙ sym c.is_configuration.ensures ∙ c.if-is_configuration.true) c.deref-then-is_configuration.result.now (c.deref-then-is_configuration.ensures.value ∙ c.requires.outputs) c.number_at-then-is_configuration.result c.number_at-then-is_configuration.ensures c.input_count.result (c.input_count.ensures ∙ ap (λ (x : Actor). input_count c.args.graphs.now x.body) (sym c.index-items-place.is)) c.requires.few in
    omega arith

pub returns-in-Interface : goal.returns-in-Interface
returns-in-Interface c = λ values outs.
    rw c.in-Interface.is (
    tail_input c.args.graphs.now c.args.graph.now c.in-Interface.place (rw c.in-Interface.is at c.requires.gives) (rw c.in-Interface.is at c.requires.unfed) c.deref.result.now (c.deref.ensures.value ∙ c.requires.inputs) c.number_at.result c.number_at.ensures values)

pub returns-then-is_configuration : goal.returns-then-is_configuration
returns-then-is_configuration c = λ values outs.
    rw c.in-Port.is (
    tail_config c.args.graphs.now c.args.graph.now c.in-Port.actor c.in-Port.port (rw c.in-Port.is at c.requires.gives) c.items.result.now c.items.ensures c.index-items-place.result c.index-items-place.is
    (ap (λ (x : Actor). is_configuration x.body) c.index-items-place.is ∙ sym c.is_configuration.ensures ∙ c.if-is_configuration.true) c.deref-then-is_configuration.result.now (c.deref-then-is_configuration.ensures.value ∙ c.requires.outputs) c.number_at-then-is_configuration.result c.number_at-then-is_configuration.ensures c.input_count.result (c.input_count.ensures ∙ ap (λ (x : Actor). input_count c.args.graphs.now x.body) (sym c.index-items-place.is)) values)

pub returns-else-is_configuration : goal.returns-else-is_configuration
returns-else-is_configuration c = λ values outs.
    rw c.in-Port.is (
    tail_acting c.args.graphs.now c.args.graph.now c.in-Port.actor c.in-Port.port (rw c.in-Port.is at c.requires.gives) c.items.result.now c.items.ensures c.index-items-place.result c.index-items-place.is
    (ap (λ (x : Actor). is_configuration x.body) c.index-items-place.is ∙ sym c.is_configuration.ensures ∙ c.if-is_configuration.false) c.deref-else-is_configuration.result.now (c.deref-else-is_configuration.ensures.value ∙ c.requires.actors) c.number_at-number.result c.number_at-number.ensures c.input_count.result (c.input_count.ensures ∙ ap (λ (x : Actor). input_count c.args.graphs.now x.body) (sym c.index-items-place.is)) values c.args.outs.now outs c.rate_at.result c.rate_at.ensures)
