use Rattle.std.proofs.Common.{sym, subst}
use Rattle.std.specs.Prelude.{◌≢◌}
use Rattle.job_flow.specs.Events.{IsQuiet}
use Rattle.one_job.specs.Marks.{IsClaimed, phase, values}
use Rattle.one_job.specs.View.{JobView, graph_of}
use Rattle.one_job.specs.Invariants.{view_of, parts_of}
use Rattle.one_job.proofs.JobEnds.{quiet_none}
use Rattle.one_job.proofs.job.Job.outcome.Goals as goal

pub take_apart-outs-requires : goal.take_apart-outs-requires
take_apart-outs-requires c = λ n.
    let i = c.self.inside in
    let j = view_of i in
    subst (λ (v : JobView). phase v.marks n ≢ IsClaimed) c.self.view_is
    (quiet_none j (parts_of i) i.pool i.outs.items i.left.items c.self.invariant.0 (subst (λ (v : JobView). IsQuiet (graph_of v) (values v.marks)) (sym c.self.view_is) c.requires) n)
