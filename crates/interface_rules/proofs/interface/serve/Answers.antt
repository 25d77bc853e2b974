use Rattle.std.proofs.Common.{◌≡◌, ap, ◌∙◌}
use Rattle.sdf_level.specs.View.{LevelView}
use Rattle.sdf_level.proofs.Branches.{OnTrue-map}
use Rattle.interface_rules.proofs.Serving.{serves_source, serves_sink, serves_across, serves_inner}
use Rattle.interface_rules.proofs.interface.serve.Goals as goal

pub returns-in_default-clause-served : goal.returns-in_default-clause-served
returns-in_default-clause-served c = serves_across _ _ _ _ _ _ _ _ _ c.in_default.is-0 c.in_default.is-1

pub returns-in_default-2-clause-served : goal.returns-in_default-2-clause-served
returns-in_default-2-clause-served c = serves_inner _ _ _ _ _ _ _ _ _ _ _ _ _ c.in_default.is-0 c.in_default.is-1

pub returns-in-Source-Port-clause-served : goal.returns-in-Source-Port-clause-served
returns-in-Source-Port-clause-served c =
    let sources : c.items.result.now ≡ c.args.level.now.sources = c.items.ensures ∙ ap (λ (v : LevelView). v.sources) c.level.view_is in
    OnTrue-map _ (serves_source _ _ _ _ _ _ _ _ _ _ _ _ c.in-Source-Port.is-0 c.in-Source-Port.is-1 c.serve_port.auto.factors) (rw sources at c.serve_port.ensures.served)

pub returns-in-Port-Sink-clause-served : goal.returns-in-Port-Sink-clause-served
returns-in-Port-Sink-clause-served c =
    let sinks : c.items-in-Port-Sink.result.now ≡ c.args.level.now.sinks = c.items-in-Port-Sink.ensures ∙ ap (λ (v : LevelView). v.sinks) c.level.view_is in
    OnTrue-map _ (serves_sink _ _ _ _ _ _ _ _ _ _ _ _ c.in-Port-Sink.is-0 c.in-Port-Sink.is-1 c.serve_port-in-Port-Sink.auto.factors) (rw sinks at c.serve_port-in-Port-Sink.ensures.served)
