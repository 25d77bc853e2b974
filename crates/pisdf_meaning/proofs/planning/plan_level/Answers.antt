use Rattle.std.proofs.Common.{length, ap, ◌∙◌, inl}
use Rattle.sdf_level.specs.View.{LevelView}
use Rattle.param_resolver.specs.declared.level_set.LevelSet.{LevelSet}
use Rattle.pisdf_meaning.proofs.Passing.{passed_on, refused-map}
use Rattle.pisdf_meaning.proofs.Recursion.{parts_here, plan_made, plan_unrated, plan_unscheduled}
use Rattle.pisdf_meaning.proofs.planning.plan_level.Goals as goal

pub returns-in_err-values-clause-refused : goal.returns-in_err-values-clause-refused
returns-in_err-values-clause-refused c =
    passed_on _ c.from_residual.result c.in_err-values.field-0.0 c.from_residual.ensures.1
    (refused-map _ _ (λ refusal is. inl is) c.in_err-values.field-0.0 c.in_err-values.ensures.refused)

pub returns-in_err-parts-clause-refused : goal.returns-in_err-parts-clause-refused
returns-in_err-parts-clause-refused c =
    passed_on _ c.from_residual-in_err-parts.result c.in_err-parts.field-0.0 c.from_residual-in_err-parts.ensures.1
    (refused-map _ _ (λ refusal is. plan_unrated c.args.graphs.now.graphs c.args.graph.now c.args.firing.now c.args.early.now c.requires.early c.args.configured.now c.in_ok-values.values c.items.result.now c.items.ensures c.in_ok-values.ensures.values refusal is) c.in_err-parts.field-0.0 c.in_err-parts.ensures.refused)

pub returns-in_err-schedule-clause-refused : goal.returns-in_err-schedule-clause-refused
returns-in_err-schedule-clause-refused c =
    passed_on _ c.from_residual-in_err-schedule.result c.in_err-schedule.field-0.0 c.from_residual-in_err-schedule.ensures.1
    (refused-map _ _ (λ refusal is. plan_unscheduled c.args.graphs.now.graphs c.args.graph.now c.args.firing.now c.args.early.now c.requires.early c.args.configured.now c.in_ok-values.values c.items.result.now c.items.ensures c.in_ok-values.ensures.values c.in_ok-parts.parts c.in_ok-parts.ensures.parts c.in_ok-parts.ensures.rated refusal is) c.in_err-schedule.field-0.0 c.in_err-schedule.ensures)

pub prepared-requires-clause-parts : goal.prepared-requires-clause-parts
prepared-requires-clause-parts c =
    parts_here c.args.graphs.now.graphs c.items-2.result.now c.args.graph.now c.args.firing.now c.args.early.now c.in_ok-values.values c.items.result.now c.in_ok-parts.parts c.items-2.ensures c.requires.early c.items.ensures c.in_ok-parts.ensures.parts

pub returns-clause-plan : goal.returns-clause-plan
returns-clause-plan c =
    plan_made c.args.graphs.now.graphs c.args.graph.now c.args.firing.now c.args.early.now c.requires.early c.args.configured.now c.in_ok-values.values c.items.result.now c.items.ensures c.in_ok-values.ensures.values c.in_ok-parts.parts c.in_ok-parts.ensures.parts c.in_ok-parts.ensures.rated c.items-2.result.now c.in_ok-schedule.schedule c.in_ok-prepared.prepared c.items-2.ensures c.in_ok-schedule.ensures c.in_ok-prepared.ensures.prepared c.in_ok-prepared.ensures.parts c.in_ok-prepared.ensures.values c.in_ok-prepared.ensures.sources

pub returns-clause-sinks : goal.returns-clause-sinks
returns-clause-sinks c = ap (λ (q : LevelSet). length q.level.sinks) c.in_ok-prepared.ensures.parts ∙ ap (λ (l : LevelView). length l.sinks) c.in_ok-parts.ensures.parts.level
