use Rattle.std.proofs.Common.{ap, ◌∙◌}
use Rattle.std.specs.Arc.{arc_value}
use Rattle.job_rules.specs.Items.{compile_number, first_refusal}
use Rattle.job_preparing.specs.Handing.{answers}
use Rattle.job_preparing.specs.View.{ConfiguringView, graph_in}
use Rattle.job_preparing.proofs.Readied.{refusal_first}
use Rattle.job_preparing.proofs.configuring.Configuring.refusal.Goals as goal

pub returns : goal.returns
returns c = c.first_refused.ensures ∙ refusal_first (arc_value c.self.inside.graphs) c.self.inside.firing c.self.inside.early c.self.inside.places.items c.self.inside.stages.items c.self.inside.frames.items c.self.inside.left.items c.self.inside.traces.items c.self.invariant ∙ ap (λ (v : ConfiguringView). first_refusal (answers v.marks) 0 (compile_number (graph_in v))) c.self.view_is
