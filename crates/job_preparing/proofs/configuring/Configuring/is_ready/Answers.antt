use Rattle.std.proofs.Common.{sym, ap, ◌∙◌, subst}
use Rattle.std.specs.Arc.{arc_value}
use Rattle.std.specs.List.{list_all}
use Rattle.job_preparing.specs.Stages.{has_given}
use Rattle.job_preparing.specs.View.{IsReady}
use Rattle.job_preparing.proofs.Readied.{gave_if, ready_if}
use Rattle.job_preparing.proofs.configuring.Configuring.is_ready.Goals as goal

pub returns : goal.returns
returns c =
    let same = c.all_gave.ensures ∙ ap (list_all has_given) c.deref.ensures.value in
    (λ holds. subst IsReady c.self.view_is (ready_if (arc_value c.self.inside.graphs) c.self.inside.firing c.self.inside.early c.self.inside.places.items c.self.inside.stages.items c.self.inside.frames.items c.self.inside.left.items c.self.inside.traces.items c.self.invariant (sym same ∙ holds)), λ ready. same ∙ gave_if (arc_value c.self.inside.graphs) c.self.inside.firing c.self.inside.early c.self.inside.places.items c.self.inside.stages.items c.self.inside.frames.items c.self.inside.left.items c.self.inside.traces.items c.self.invariant (subst IsReady (sym c.self.view_is) ready))
