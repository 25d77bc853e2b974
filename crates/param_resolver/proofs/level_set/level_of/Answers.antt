use Rattle.param_resolver.specs.LevelOf.{level_at}
use Rattle.param_resolver.proofs.Leveling.{at_place, inputs_ok, kept, level_inputs_are, linkable}
use Rattle.param_resolver.proofs.Sound.{nested, resolvable}
use Rattle.param_resolver.proofs.level_set.level_of.Goals as goal

pub level_in-requires-clause-resolvable : goal.level_in-requires-clause-resolvable
level_in-requires-clause-resolvable c = rw c.items-all.ensures (resolvable c.args.graphs.now c.requires.valid.in_range c.requires.valid.well_formed)

pub level_in-requires-clause-nested : goal.level_in-requires-clause-nested
level_in-requires-clause-nested c = rw c.items-all.ensures (λ k below. nested c.args.graphs.now c.requires.valid.in_range c.requires.valid.well_formed k below)

pub level_in-requires-clause-linkable : goal.level_in-requires-clause-linkable
level_in-requires-clause-linkable c =
    let here = at_place c.args.graphs.now.graphs c.items-all.result.now c.args.graph c.index-all-graph.result c.items-all.ensures c.requires.there c.index-all-graph.is in
    rw c.items-all.ensures (linkable c.args.graphs.now c.requires.valid.in_range c.requires.valid.well_formed c.args.graph c.index-all-graph.result here)

pub level_in-requires-clause-values : goal.level_in-requires-clause-values
level_in-requires-clause-values c =
    let here = at_place c.args.graphs.now.graphs c.items-all.result.now c.args.graph c.index-all-graph.result c.items-all.ensures c.requires.there c.index-all-graph.is in
    rw here at c.requires.values

pub level_in-requires-clause-kept : goal.level_in-requires-clause-kept
level_in-requires-clause-kept c =
    let here = at_place c.args.graphs.now.graphs c.items-all.result.now c.args.graph c.index-all-graph.result c.items-all.ensures c.requires.there c.index-all-graph.is in
    rw c.items-all.ensures (kept c.args.graphs.now c.requires.valid.in_range c.requires.valid.well_formed c.args.graph c.index-all-graph.result here c.args.early.now c.requires.early.0 c.args.values.now c.requires.early.1)

pub returns-clause-level : goal.returns-clause-level
returns-clause-level c =
    let here = at_place c.args.graphs.now.graphs c.items-all.result.now c.args.graph c.index-all-graph.result c.items-all.ensures c.requires.there c.index-all-graph.is in
    rw here (rw c.items-all.ensures at c.level_in.ensures.level)

pub returns-clause-origins : goal.returns-clause-origins
returns-clause-origins c =
    let here = at_place c.args.graphs.now.graphs c.items-all.result.now c.args.graph c.index-all-graph.result c.items-all.ensures c.requires.there c.index-all-graph.is in
    rw here (rw c.items-all.ensures at c.level_in.ensures.origins)

pub returns-clause-places : goal.returns-clause-places
returns-clause-places c =
    let here = at_place c.args.graphs.now.graphs c.items-all.result.now c.args.graph c.index-all-graph.result c.items-all.ensures c.requires.there c.index-all-graph.is in
    rw here c.level_in.ensures.places

pub returns-clause-args : goal.returns-clause-args
returns-clause-args c =
    let here = at_place c.args.graphs.now.graphs c.items-all.result.now c.args.graph c.index-all-graph.result c.items-all.ensures c.requires.there c.index-all-graph.is in
    rw here c.level_in.ensures.args

pub returns-clause-outs : goal.returns-clause-outs
returns-clause-outs c =
    let here = at_place c.args.graphs.now.graphs c.items-all.result.now c.args.graph c.index-all-graph.result c.items-all.ensures c.requires.there c.index-all-graph.is in
    rw here (rw c.items-all.ensures at c.level_in.ensures.outs)

pub returns-clause-children : goal.returns-clause-children
returns-clause-children c =
    let here = at_place c.args.graphs.now.graphs c.items-all.result.now c.args.graph c.index-all-graph.result c.items-all.ensures c.requires.there c.index-all-graph.is in
    rw here (rw c.items-all.ensures at c.level_in.ensures.children)

pub returns-clause-sound : goal.returns-clause-sound
returns-clause-sound c =
    let here = at_place c.args.graphs.now.graphs c.items-all.result.now c.args.graph c.index-all-graph.result c.items-all.ensures c.requires.there c.index-all-graph.is in
    rw here (rw c.items-all.ensures at c.level_in.ensures.sound)

pub returns-clause-first_fault : goal.returns-clause-first_fault
returns-clause-first_fault c =
    let here = at_place c.args.graphs.now.graphs c.items-all.result.now c.args.graph c.index-all-graph.result c.items-all.ensures c.requires.there c.index-all-graph.is in
    rw here (rw c.items-all.ensures at c.level_in.ensures.fault)

pub returns-clause-inputs : goal.returns-clause-inputs
returns-clause-inputs c =
    let here = at_place c.args.graphs.now.graphs c.items-all.result.now c.args.graph c.index-all-graph.result c.items-all.ensures c.requires.there c.index-all-graph.is in
    rw here (inputs_ok c.level_in.result (level_at c.args.graphs.now.graphs c.index-all-graph.result c.args.early.now c.args.values.now) c.args.graphs.now.graphs c.index-all-graph.result (rw c.items-all.ensures at c.level_in.ensures.level) (level_inputs_are c.args.graphs.now c.requires.valid.in_range c.requires.valid.well_formed c.args.graph c.index-all-graph.result here c.args.values.now))
