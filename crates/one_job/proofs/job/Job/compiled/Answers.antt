use Rattle.std.proofs.Common.{subst}
use Rattle.one_job.specs.LiveLaws.{KeepsBuffers}
use Rattle.one_job.specs.Invariants.{view_of, parts_of}
use Rattle.one_job.proofs.BuffersKept.{keeps_buffers}
use Rattle.one_job.proofs.job.Job.compiled.Goals as goal

pub returns-clause-buffers : goal.returns-clause-buffers
returns-clause-buffers c =
    let i = c.self.inside in
    subst KeepsBuffers c.self.view_is (keeps_buffers (view_of i) (parts_of i) i.pool i.outs.items i.left.items c.self.invariant.0)
