use Rattle.std.proofs.Common.{List, sym, ap, ◌∙◌, subst}
use Rattle.std.specs.Prelude.{Vec}
use Rattle.std.specs.Global.{Global}
use Rattle.std.specs.Arc.{arc_value}
use Rattle.pisdf_meaning.specs.declared.firing.Configured.{Configured}
use Rattle.pisdf_meaning.specs.declared.outcome.TraceRow.{TraceRow}
use Rattle.job_preparing.specs.Handing.{with_traces}
use Rattle.job_preparing.specs.View.{IsReady, left_by}
use Rattle.job_preparing.proofs.Readied.{left_is}
use Rattle.job_preparing.proofs.configuring.Configuring.told_left.Goals as goal

pub returns : goal.returns
returns c =
    let ready = subst IsReady (sym c.self.view_is) c.requires in
    ap (λ (v : Vec Configured Global). with_traces v.items c.of-2.result.value.items) c.of.ensures
    ∙ ap (λ (v : Vec (List TraceRow) Global). with_traces c.self.inside.left.items v.items) c.of-2.ensures
    ∙ sym (left_is (arc_value c.self.inside.graphs) c.self.inside.firing c.self.inside.early c.self.inside.places.items c.self.inside.stages.items c.self.inside.frames.items c.self.inside.left.items c.self.inside.traces.items c.self.invariant ready)
    ∙ ap left_by c.self.view_is
