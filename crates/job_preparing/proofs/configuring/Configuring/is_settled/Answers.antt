use Rattle.std.proofs.Common.{sym, ap, ◌∙◌, subst}
use Rattle.std.specs.Arc.{arc_value}
use Rattle.std.specs.List.{list_all}
use Rattle.job_preparing.specs.Stages.{is_done}
use Rattle.job_preparing.specs.View.{ConfiguringView, IsSettled}
use Rattle.job_preparing.proofs.Readied.{done_if, settled_if}
use Rattle.job_preparing.proofs.configuring.Configuring.is_settled.Goals as goal

pub returns : goal.returns
returns c =
    let same = c.all_finished.ensures ∙ ap (list_all is_done) c.deref.ensures.value in
    let P : ConfiguringView → Type 0 = λ v. IsSettled v in
    (λ holds. subst P c.self.view_is (settled_if (arc_value c.self.inside.graphs) c.self.inside.firing c.self.inside.early c.self.inside.places.items c.self.inside.stages.items c.self.inside.frames.items c.self.inside.left.items c.self.inside.traces.items c.self.invariant (sym same ∙ holds)), λ settled. same ∙ done_if (arc_value c.self.inside.graphs) c.self.inside.firing c.self.inside.early c.self.inside.places.items c.self.inside.stages.items c.self.inside.frames.items c.self.inside.left.items c.self.inside.traces.items c.self.invariant (subst P (sym c.self.view_is) settled))
