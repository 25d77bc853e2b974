use Rattle.std.proofs.Common.{length, ap, ◌∙◌}
use Rattle.job_compiler.specs.Compilation.{Compilation}
use Rattle.job_calls.proofs.HeldSteps.{holds_first}
use Rattle.job_calls.proofs.jobs.answers.Goals as goal

pub step_all-told-requires : goal.step_all-told-requires
step_all-told-requires c =
    let all = ap length (c.items-count.ensures ∙ (ap (λ g. g.nodes) c.graph.ensures.value ∙ ap (λ (k : Compilation). k.graph.nodes) c.compiled.ensures.value)) in
    holds_first c.in_ok-job.job c.deref_mut.result.now (length c.items-count.result.now) c.in_ok-job.ensures all (c.deref_mut.ensures.value ∙ c.no_frames-frames.ensures)
