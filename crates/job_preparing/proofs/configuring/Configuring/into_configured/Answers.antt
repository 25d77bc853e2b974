use Rattle.std.proofs.Common.{map, sym, ap, ◌∙◌, subst}
use Rattle.std.specs.Arc.{arc_value}
use Rattle.job_preparing.specs.Handing.{with_traces, without_trace}
use Rattle.job_preparing.specs.View.{ConfiguringView, IsReady, left_by}
use Rattle.job_preparing.proofs.Readied.{left_is, slim}
use Rattle.job_preparing.proofs.configuring.Configuring.into_configured.Goals as goal

pub returns-clause-left : goal.returns-clause-left
returns-clause-left c =
    let ready = subst IsReady (sym c.self.view_is) c.requires in
    ap (λ l. with_traces l c.new-2.result) c.new.ensures ∙ ap (λ l. with_traces c.self.inside.left.items l) c.new-2.ensures
    ∙ sym (left_is (arc_value c.self.inside.graphs) c.self.inside.firing c.self.inside.early c.self.inside.places.items c.self.inside.stages.items c.self.inside.frames.items c.self.inside.left.items c.self.inside.traces.items c.self.invariant ready) ∙ ap (λ (v : ConfiguringView). left_by v) c.self.view_is

pub returns-clause-configured : goal.returns-clause-configured
returns-clause-configured c =
    let ready = subst IsReady (sym c.self.view_is) c.requires in
    c.new.ensures ∙ slim (arc_value c.self.inside.graphs) c.self.inside.firing c.self.inside.early c.self.inside.places.items c.self.inside.stages.items c.self.inside.frames.items c.self.inside.left.items c.self.inside.traces.items c.self.invariant ready ∙ ap (λ (v : ConfiguringView). map without_trace (left_by v)) c.self.view_is
