use Rattle.std.proofs.Common.{ℤ, List, Some, length, arith, sym, ap, ◌∙◌, subst}
use Rattle.std.proofs.lemmas.List.Elements.{All-get_or}
use Rattle.pisdf_model.specs.declared.graph.Graph.{Graph}
use Rattle.param_resolver.specs.EarlyCheck.{check_to, supplied_early}
use Rattle.param_resolver.specs.EarlyView.{EarlyView}
use Rattle.param_resolver.specs.Refusal.{part_refusal_of, refusal_of}
use Rattle.pisdf_model.specs.Parts.{inputs_of}
use Rattle.std.proofs.lemmas.Option.{slice_get-get_or}
use Rattle.param_resolver.proofs.RatedFaults.{length-numbers}
use Rattle.param_resolver.proofs.Walks.{passed, passed_same}
use Rattle.param_resolver.specs.Resolvable.{IsResolvable}
use Rattle.param_resolver.proofs.Configuring.{check_step, checked_args, checked_children, checked_outs, checked_sound, child_stands, configured_stands, configures_fault, configures_more, fed_none, unfed_stands, whole_known}
use Rattle.param_resolver.proofs.NestedGraphs.{children_nested, some_levels}
use Rattle.param_resolver.proofs.configuration.+checking.Goals as goal

pub add_child-returns-in-Err-clause-fault : goal.add_child-returns-in-Err-clause-fault
add_child-returns-in-Err-clause-fault t c =
    child_stands (check_to c.args.levels c.args.graphs.now) c.args.graphs.now c.args.graph.now c.args.numbers.now c.args.inputs.now c.args.number c.args.actor.now c.args.place c.args.args.now c.deref.result.now
    c.in_ok-values.ensures.sound (c.deref.ensures.value ∙ c.in_ok-values.ensures.values) (refusal_of c.above.result) (c.above.ensures.stands _ c.in-Err.ensures.fault)

pub add_child-returns-in_err-inputs_fed-clause-fault : goal.add_child-returns-in_err-inputs_fed-clause-fault
add_child-returns-in_err-inputs_fed-clause-fault t c =
    let g = c.index-graphs-place.result in
    let inputs = c.items.ensures ∙ ap inputs_of (sym (slice_get-get_or c.args.graphs.now c.args.place g c.requires.there ∙ ap Some (sym c.index-graphs-place.is))) in
    let taken = c.items-2.ensures ∙ ap (λ (e : EarlyView). e.inputs) (c.early.view_is ∙ c.in-Ok.ensures.known) in
    let r = part_refusal_of c.in_err-inputs_fed.field-0.0 in
    passed c.from_residual-in_err-inputs_fed.result r _ c.from_residual-in_err-inputs_fed.ensures.1
    (unfed_stands (check_to c.args.levels c.args.graphs.now) c.args.graphs.now c.args.graph.now c.args.numbers.now c.args.inputs.now c.args.number c.args.actor.now c.args.place c.args.args.now c.deref.result.now
    c.in_ok-values.ensures.sound (c.deref.ensures.value ∙ c.in_ok-values.ensures.values) c.in-Ok.ensures.sound c.items.result.now c.items-2.result.now inputs taken r c.in_err-inputs_fed.ensures.fault)

pub add_child-returns-clause-sound : goal.add_child-returns-clause-sound
add_child-returns-clause-sound t c =
    let g = c.index-graphs-place.result in
    let inputs = c.items.ensures ∙ ap inputs_of (sym (slice_get-get_or c.args.graphs.now c.args.place g c.requires.there ∙ ap Some (sym c.index-graphs-place.is))) in
    let taken = c.items-2.ensures ∙ ap (λ (e : EarlyView). e.inputs) (c.early.view_is ∙ c.in-Ok.ensures.known) in
    fed_none (check_to c.args.levels c.args.graphs.now) c.args.graphs.now c.args.graph.now c.args.numbers.now c.args.inputs.now c.args.number c.args.actor.now c.args.place c.args.args.now c.deref.result.now
    c.in_ok-values.ensures.sound (c.deref.ensures.value ∙ c.in_ok-values.ensures.values) c.in-Ok.ensures.sound c.items.result.now c.items-2.result.now inputs taken c.in_ok-inputs_fed.ensures.sound

pub add_actors-loop-number-preserved : goal.add_actors-loop-number-preserved
add_actors-loop-number-preserved t c =
    let configured = c.loop-number.configured in
    rw (c.in_ok-add_actor.ensures.args, c.in_ok-add_actor.ensures.outs, c.in_ok-add_actor.ensures.children) (
    configures_more (check_to c.args.levels c.args.graphs.now) c.args.graphs.now c.args.graph.now c.args.numbers.now c.args.inputs.now c.loop-number.number configured.args.items configured.outs.items configured.children.items c.loop-number.invariant c.actor-item.result (rw c.items-actor-items.ensures at c.loop-number-test.true) (rw c.items-actor-items.ensures at c.actor-item.is) c.in_ok-add_actor.ensures.sound)

pub add_actors-returns-in_err-add_actor-clause-fault : goal.add_actors-returns-in_err-add_actor-clause-fault
add_actors-returns-in_err-add_actor-clause-fault t c =
    let configured = c.loop-number.configured in
    let fault = c.in_err-add_actor.field-0.0 in
    passed_same c.from_residual.result fault _ c.from_residual.ensures.1
    (configures_fault (check_to c.args.levels c.args.graphs.now) c.args.graphs.now c.args.graph.now c.args.numbers.now c.args.inputs.now c.loop-number.number configured.args.items configured.outs.items configured.children.items c.loop-number.invariant c.actor-item.result (refusal_of fault) (rw c.items-actor-items.ensures at c.loop-number-test.true) (rw c.items-actor-items.ensures at c.actor-item.is) c.in_err-add_actor.ensures.fault)

pub add_actors-returns-clause-args : goal.add_actors-returns-clause-args
add_actors-returns-clause-args t c =
    let configured = c.loop-number.configured in
    checked_args (check_to c.args.levels c.args.graphs.now) c.args.graphs.now c.args.graph.now c.args.numbers.now c.args.inputs.now c.loop-number.number configured.args.items configured.outs.items configured.children.items c.loop-number.invariant (rw c.items-actor-items.ensures at c.loop-number-test.false)

pub add_actors-returns-clause-outs : goal.add_actors-returns-clause-outs
add_actors-returns-clause-outs t c =
    let configured = c.loop-number.configured in
    checked_outs (check_to c.args.levels c.args.graphs.now) c.args.graphs.now c.args.graph.now c.args.numbers.now c.args.inputs.now c.loop-number.number configured.args.items configured.outs.items configured.children.items c.loop-number.invariant (rw c.items-actor-items.ensures at c.loop-number-test.false)

pub add_actors-returns-clause-children : goal.add_actors-returns-clause-children
add_actors-returns-clause-children t c =
    let configured = c.loop-number.configured in
    checked_children (check_to c.args.levels c.args.graphs.now) c.args.graphs.now c.args.graph.now c.args.numbers.now c.args.inputs.now c.loop-number.number configured.args.items configured.outs.items configured.children.items c.loop-number.invariant (rw c.items-actor-items.ensures at c.loop-number-test.false)

pub add_actors-returns-clause-sound : goal.add_actors-returns-clause-sound
add_actors-returns-clause-sound t c =
    let configured = c.loop-number.configured in
    checked_sound (check_to c.args.levels c.args.graphs.now) c.args.graphs.now c.args.graph.now c.args.numbers.now c.args.inputs.now c.loop-number.number configured.args.items configured.outs.items configured.children.items c.loop-number.invariant (rw c.items-actor-items.ensures at c.loop-number-test.false)

pub check_graph-add_actors-requires : goal.check_graph-add_actors-requires
check_graph-add_actors-requires t c =
    let g = c.args.graph.now in
    let same = ap (λ (v : List ℤ). length v) (c.deref-2.ensures.value ∙ c.in_ok-rated.ensures.numbers) ∙ length-numbers g.params (supplied_early g.params c.args.inherited.now) c.requires.graph.ordered in
    (omega arith, (c.requires.resolvable, (c.requires.graph.few_actors, (rw same c.requires.graph.actors, c.requires.nested))))

pub check_graph-returns-in_err-configured-clause-fault : goal.check_graph-returns-in_err-configured-clause-fault
check_graph-returns-in_err-configured-clause-fault t c =
    let fault = c.in_err-configured.field-0.0 in
    passed_same c.from_residual-in_err-configured.result fault _ c.from_residual-in_err-configured.ensures.1
    (configured_stands (check_to c.args.levels c.args.graphs.now) c.args.graphs.now c.args.graph.now c.args.inherited.now c.deref-2.result.now (c.deref-2.ensures.value ∙ c.in_ok-rated.ensures.numbers)
    c.deref.result.now (c.deref.ensures.value ∙ c.in_ok-rated.ensures.inputs) c.in_ok-rated.ensures.sound (refusal_of fault) c.in_err-configured.ensures.fault)

pub check_graph-returns-clause-known : goal.check_graph-returns-clause-known
check_graph-returns-clause-known t c =
    c.whole.ensures
    ∙ whole_known (check_to c.args.levels c.args.graphs.now) c.args.graphs.now c.args.graph.now c.args.inherited.now c.deref-2.result.now (c.deref-2.ensures.value ∙ c.in_ok-rated.ensures.numbers)
    c.in_ok-rated.rated.values.items c.in_ok-rated.rated.inputs.items c.in_ok-rated.rated.outputs.items c.in_ok-configured.configured.args.items c.in_ok-configured.configured.outs.items c.in_ok-configured.configured.children.items
    c.in_ok-rated.ensures.values c.in_ok-rated.ensures.inputs c.in_ok-rated.ensures.outputs c.in_ok-configured.ensures.args c.in_ok-configured.ensures.outs c.in_ok-configured.ensures.children

pub early_within-overflow_sub-levels : goal.early_within-overflow_sub-levels
early_within-overflow_sub-levels t c = some_levels c.args.graphs.now c.args.levels c.args.place c.requires.nested

pub early_within-check_graph-requires : goal.early_within-check_graph-requires
early_within-check_graph-requires t c =
    let graphs = c.args.graphs.now in
    let some = some_levels graphs c.args.levels c.args.place c.requires.nested in
    let g = c.index-graphs-place.result in
    let sound = subst (λ (x : Graph). IsResolvable (length graphs) x) (sym c.index-graphs-place.is) (All-get_or (λ (x : Graph). IsResolvable (length graphs) x) graphs c.args.place g c.requires.there c.requires.resolvable) in
    (omega arith, (c.requires.resolvable, (sound, children_nested graphs c.args.levels c.args.place g c.requires.there c.index-graphs-place.is c.requires.nested)))

pub early_within-returns-clause-known : goal.early_within-returns-clause-known
early_within-returns-clause-known t c =
    let step = check_step c.args.levels c.args.graphs.now c.args.place c.args.inherited.now c.index-graphs-place.result (some_levels c.args.graphs.now c.args.levels c.args.place c.requires.nested) c.requires.there c.index-graphs-place.is in
    rw step c.check_graph.ensures.known

pub early_within-returns-clause-sound : goal.early_within-returns-clause-sound
early_within-returns-clause-sound t c =
    let step = check_step c.args.levels c.args.graphs.now c.args.place c.args.inherited.now c.index-graphs-place.result (some_levels c.args.graphs.now c.args.levels c.args.place c.requires.nested) c.requires.there c.index-graphs-place.is in
    rw step c.check_graph.ensures.sound

pub early_within-returns-clause-fault : goal.early_within-returns-clause-fault
early_within-returns-clause-fault t c =
    let step = check_step c.args.levels c.args.graphs.now c.args.place c.args.inherited.now c.index-graphs-place.result (some_levels c.args.graphs.now c.args.levels c.args.place c.requires.nested) c.requires.there c.index-graphs-place.is in
    rw step c.check_graph.ensures.fault
