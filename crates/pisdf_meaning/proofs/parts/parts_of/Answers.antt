use Rattle.std.proofs.Common.{List, sym, ap, ◌∙◌, slice_get}
use Rattle.param_resolver.specs.EarlyView.{EarlyView}
use Rattle.param_resolver.specs.LevelOf.{level_at, level_faults}
use Rattle.pisdf_model.specs.declared.graph.Graph.{Graph}
use Rattle.pisdf_meaning.specs.Causes.{unless_refused}
use Rattle.pisdf_meaning.proofs.LevelSets.{are_parts, some_at}
use Rattle.pisdf_meaning.proofs.Passing.{refused-map}
use Rattle.pisdf_meaning.proofs.parts.parts_of.Goals as goal

pub returns-in-Ok-clause-parts : goal.returns-in-Ok-clause-parts
returns-in-Ok-clause-parts c =
    let o = slice_get c.args.graphs.now.graphs c.args.firing.now.graph in
    let e = c.in-Ok.ensures in
    are_parts c.args.graphs.now.graphs c.args.graph.now c.args.early.now c.args.values.now c.in-Ok.set
    (some_at o c.args.graph.now _ c.requires.here e.level) (some_at o c.args.graph.now _ c.requires.here e.places) (some_at o c.args.graph.now _ c.requires.here e.args)
    (some_at o c.args.graph.now _ c.requires.here e.outs) (some_at o c.args.graph.now _ c.requires.here e.children) (some_at o c.args.graph.now _ c.requires.here e.inputs)
    (c.level_by_actor.ensures.each c.args.graphs.now.graphs c.args.graph.now c.args.values.now) (c.level_by_actor.ensures.many c.args.graphs.now.graphs c.args.graph.now c.args.values.now)
    (λ b actor at. c.level_by_actor.ensures.sound c.args.graphs.now.graphs c.args.graph.now c.args.values.now b actor (some_at o c.args.graph.now _ c.requires.here e.sound) at)

pub returns-in-Err-clause-refused : goal.returns-in-Err-clause-refused
returns-in-Err-clause-refused c =
    let graphs = c.args.graphs.now.graphs in
    let faults = level_faults graphs c.args.graph.now c.args.values.now in
    refused-map _ _
    (λ refusal e. ap (λ (l : List Graph). unless_refused l c.args.graph.now c.args.firing.now.path faults c.args.values.now) (sym c.items.ensures) ∙ e)
    c.level_refused.result
    (c.level_refused.ensures faults c.args.values.now (some_at (slice_get graphs c.args.firing.now.graph) c.args.graph.now _ c.requires.here c.in-Err.ensures.first_fault))

pub returns-in-Ok-clause-set : goal.returns-in-Ok-clause-set
returns-in-Ok-clause-set c =
    let o = slice_get c.args.graphs.now.graphs c.args.firing.now.graph in
    let e = c.in-Ok.ensures in
    record {
      level = some_at o c.args.graph.now _ c.requires.here e.level ∙ ap (λ (x : EarlyView). level_at c.args.graphs.now.graphs c.args.graph.now x c.args.values.now) c.requires.early;
      origins = some_at o c.args.graph.now _ c.requires.here e.origins;
      places = some_at o c.args.graph.now _ c.requires.here e.places;
      args = some_at o c.args.graph.now _ c.requires.here e.args;
      outs = some_at o c.args.graph.now _ c.requires.here e.outs;
      children = some_at o c.args.graph.now _ c.requires.here e.children;
    }
