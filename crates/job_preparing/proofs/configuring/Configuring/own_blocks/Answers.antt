use Rattle.std.proofs.Common.{ℕ, List, get_or, slice_get, sym, subst}
use Rattle.std.specs.Arc.{arc_value}
use Rattle.job_rules.specs.Items.{graph_of}
use Rattle.pisdf_meaning.specs.Configuring.{configurations}
use Rattle.job_preparing.specs.Handing.{AreOwnBlocks}
use Rattle.job_preparing.specs.Standing.{nothing}
use Rattle.job_preparing.specs.View.{ConfiguringView, task_of}
use Rattle.job_preparing.proofs.OwnBlocks.{lent_stage, lent_whole}
use Rattle.job_preparing.proofs.configuring.Configuring.own_blocks.Goals as goal

pub returns : goal.returns
returns c =
    let i = c.self.inside in
    subst (λ (v : ConfiguringView). AreOwnBlocks v.lent) c.self.view_is
    (λ n places is.
    let s = lent_stage i.stages.items n places is in
    lent_whole (arc_value i.graphs).graphs _ _ s.0 _ _ _ places (c.self.invariant.right n s.0 s.1) s.2)
