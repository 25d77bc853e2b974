use Rattle.std.proofs.Common.{length, sym, subst}
use Rattle.std.specs.Prelude.{◌≢◌}
use Rattle.one_job.specs.Marks.{IsClaimed, phase}
use Rattle.one_job.specs.Places.{buffer_at}
use Rattle.one_job.specs.View.{JobView}
use Rattle.one_job.specs.Invariants.{view_of}
use Rattle.one_job.proofs.JobEnds.{none_out}
use Rattle.one_job.proofs.job.Job.take_apart.Goals as goal

pub close-requires : goal.close-requires
close-requires c =
    let j = view_of c.self.inside in
    none_out (buffer_at j.compilation.graph.edges j.compilation.placement.offsets) (length j.compilation.graph.edges) j.compilation.graph.edges j.marks c.self.inside.pool.out c.self.invariant.0.out
    (λ n. subst (λ (v : JobView). phase v.marks n ≢ IsClaimed) (sym c.self.view_is) (c.requires n))
