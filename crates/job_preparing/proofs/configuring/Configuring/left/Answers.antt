use Rattle.std.proofs.Common.{[], map, sym, ap, ◌∙◌, subst}
use Rattle.std.specs.Arc.{arc_value}
use Rattle.kernel_gate.specs.Value.{lengths}
use Rattle.param_resolver.specs.LevelOf.{sources_of}
use Rattle.pisdf_meaning.specs.Configuring.{early_in}
use Rattle.pisdf_meaning.specs.Running.{source_tokens}
use Rattle.job_preparing.specs.Handing.{LeftSuits, without_trace}
use Rattle.job_preparing.specs.View.{ConfiguringView, IsReady, graph_in, left_by}
use Rattle.job_preparing.proofs.Readied.{left_suits, rates_long, slim, sources_same}
use Rattle.job_preparing.proofs.configuring.Configuring.left.Goals as goal

pub returns-clause-left : goal.returns-clause-left
returns-clause-left c = c.deref.ensures.value ∙ slim (arc_value c.self.inside.graphs) c.self.inside.firing c.self.inside.early c.self.inside.places.items c.self.inside.stages.items c.self.inside.frames.items c.self.inside.left.items c.self.inside.traces.items c.self.invariant (subst IsReady (sym c.self.view_is) c.requires) ∙ ap (λ (v : ConfiguringView). map without_trace (left_by v)) c.self.view_is

pub returns-clause-sources : goal.returns-clause-sources
returns-clause-sources c =
    let ready = subst IsReady (sym c.self.view_is) c.requires in
    ap (λ (v : ConfiguringView). source_tokens (graph_in v) v.firing c.deref.result.now) (sym c.self.view_is)
    ∙ ap (source_tokens (graph_in record { graphs = arc_value c.self.inside.graphs; firing = c.self.inside.firing; marks = []; lent = [] }) c.self.inside.firing) c.deref.ensures.value
    ∙ sources_same (arc_value c.self.inside.graphs) c.self.inside.firing c.self.inside.early c.self.inside.places.items c.self.inside.stages.items c.self.inside.frames.items c.self.inside.left.items c.self.inside.traces.items c.self.invariant ready
    ∙ ap (λ (v : ConfiguringView). source_tokens (graph_in v) v.firing (left_by v)) c.self.view_is

pub returns-clause-rates : goal.returns-clause-rates
returns-clause-rates c =
    let ready = subst IsReady (sym c.self.view_is) c.requires in
    let g = graph_in record { graphs = arc_value c.self.inside.graphs; firing = c.self.inside.firing; marks = []; lent = [] } in
    ap (λ (v : ConfiguringView). lengths (source_tokens (graph_in v) v.firing c.deref.result.now)) (sym c.self.view_is)
    ∙ ap (λ l. lengths (source_tokens g c.self.inside.firing l)) c.deref.ensures.value
    ∙ rates_long (arc_value c.self.inside.graphs) c.self.inside.firing c.self.inside.early c.self.inside.places.items c.self.inside.stages.items c.self.inside.frames.items c.self.inside.left.items c.self.inside.traces.items c.self.invariant ready (λ place inherited inside. c.early_unfolds.ensures (arc_value c.self.inside.graphs) place inherited c.self.invariant.valid.in_range c.self.invariant.valid.well_formed inside)
    ∙ ap (λ (v : ConfiguringView). sources_of (graph_in v) (early_in v.graphs.graphs v.firing)) c.self.view_is

pub returns-clause-suits : goal.returns-clause-suits
returns-clause-suits c =
    let ready = subst IsReady (sym c.self.view_is) c.requires in
    let P : ConfiguringView → Type 0 = λ v. LeftSuits v.graphs.graphs (graph_in v) v.firing (left_by v) in
    subst P c.self.view_is
    (left_suits (arc_value c.self.inside.graphs) c.self.inside.firing c.self.inside.early c.self.inside.places.items c.self.inside.stages.items c.self.inside.frames.items c.self.inside.left.items c.self.inside.traces.items c.self.invariant ready (λ place inherited inside. c.early_unfolds.ensures (arc_value c.self.inside.graphs) place inherited c.self.invariant.valid.in_range c.self.invariant.valid.well_formed inside))
