use Rattle.std.proofs.Common.{◌∙◌, ap, length}
use Rattle.param_resolver.proofs.RatedFaults.{length-numbers}
use Rattle.param_resolver.specs.Assignment.{supplied_to, numbers, param_faults, values_of}
use Rattle.pisdf_meaning.proofs.ParamValues.{known_early, resolvable_at, resolved_so, unresolved_so}
use Rattle.pisdf_meaning.proofs.resolving.resolved.Goals as goal
use Rattle.std.proofs.lemmas.Option.{slice_get_within}

pub resolve-requires : goal.resolve-requires
resolve-requires c =
    let graphs = c.args.graphs.now in
    let is = resolvable_at graphs.graphs c.args.firing.now.graph c.args.graph.now c.requires.here (c.graphs_resolvable.ensures graphs c.requires.valid.in_range c.requires.valid.well_formed) in
    record { ordered = is.ordered; few = is.few_params }

pub returns-in-Ok-clause-values : goal.returns-in-Ok-clause-values
returns-in-Ok-clause-values c =
    let graphs = c.args.graphs.now in
    let firing = c.args.firing.now in
    let early = known_early graphs.graphs firing.graph c.args.graph.now firing.inherited c.args.early.now c.requires.here
    (c.early_unfolds.ensures graphs firing.graph firing.inherited c.requires.valid.in_range c.requires.valid.well_formed (slice_get_within graphs.graphs firing.graph c.args.graph.now c.requires.here)) c.requires.early c.requires.sound in
    resolved_so graphs.graphs c.args.graph.now firing c.args.configured.now c.deref.result.now (c.deref.ensures.value ∙ c.in_ok-chosen.ensures) c.in-Ok.values (c.in-Ok.ensures.values firing.inherited early) (c.in-Ok.ensures.sound firing.inherited early)

pub returns-in-Ok-clause-each : goal.returns-in-Ok-clause-each
returns-in-Ok-clause-each c =
    let graphs = c.args.graphs.now in
    let firing = c.args.firing.now in
    let is = resolvable_at graphs.graphs firing.graph c.args.graph.now c.requires.here (c.graphs_resolvable.ensures graphs c.requires.valid.in_range c.requires.valid.well_formed) in
    let early = known_early graphs.graphs firing.graph c.args.graph.now firing.inherited c.args.early.now c.requires.here
    (c.early_unfolds.ensures graphs firing.graph firing.inherited c.requires.valid.in_range c.requires.valid.well_formed (slice_get_within graphs.graphs firing.graph c.args.graph.now c.requires.here)) c.requires.early c.requires.sound in
    ap (λ v. length v) (c.in-Ok.ensures.values firing.inherited early) ∙ length-numbers c.args.graph.now.params (supplied_to c.args.graph.now.params firing.inherited c.deref.result.now) is.ordered

pub returns-clause-refused : goal.returns-clause-refused
returns-clause-refused c =
    let graphs = c.args.graphs.now in
    let firing = c.args.firing.now in
    let early = known_early graphs.graphs firing.graph c.args.graph.now firing.inherited c.args.early.now c.requires.here
    (c.early_unfolds.ensures graphs firing.graph firing.inherited c.requires.valid.in_range c.requires.valid.well_formed (slice_get_within graphs.graphs firing.graph c.args.graph.now c.requires.here)) c.requires.early c.requires.sound in
    let given = supplied_to c.args.graph.now.params firing.inherited c.deref.result.now in
    unresolved_so graphs.graphs c.args.graph.now firing c.args.configured.now c.deref.result.now (c.deref.ensures.value ∙ c.in_ok-chosen.ensures) c.param_refused.result
    (c.param_refused.ensures graphs.graphs (param_faults c.args.graph.now.params given) (numbers (values_of c.args.graph.now.params given)) (c.in-Err.ensures.first_fault firing.inherited early))
