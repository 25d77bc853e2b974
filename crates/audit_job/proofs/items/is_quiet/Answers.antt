use Rattle.std.proofs.Common.{◌≡◌, ◌<◌, false, length, arith}
use Rattle.job_rules.specs.Items.{rule}
use Rattle.nested_jobs.specs.Steps.{is_settled}
use Rattle.audit_job.specs.Marks.{answers, mark_at}
use Rattle.audit_job.proofs.CandidateSteps.{read_there}
use Rattle.audit_job.proofs.QuietJob.{not_quiet, quiet_by, runs_on, settled_by}
use Rattle.audit_job.proofs.items.is_quiet.Goals as goal

pub returns-then-job-ne0 : goal.returns-then-job-ne0
returns-then-job-ne0 c = runs_on c.args.graphs.now.graphs c.requires.0 c.args.job.now c.requires.1 c.if-job-ne0.true

pub returns-then-not-is_settled : goal.returns-then-not-is_settled
returns-then-not-is_settled c =
    let job = c.args.job.now in
    let graphs = c.args.graphs.now.graphs in
    let i = c.index-item.result.now in
    let within : c.loop-place.place < length job.candidates.items = omega (arith, job.candidates.ok.0) in
    let inside : i < length job.marks.items = read_there (λ k. k < length job.marks.items) job.candidates.items c.loop-place.place i within c.index-item.ensures c.requires.1.candidates.there in
    let by = settled_by graphs c.requires.0 job c.requires.1 i c.index.result.now c.kind_of.result inside c.index.ensures c.kind_of.ensures in
    let own = c.is_settled.ensures in
    let unsettled : is_settled (mark_at job.marks.items i) (rule graphs job.firing (answers job.marks.items) i) ≡ false = cc in
    not_quiet graphs c.requires.0 job c.requires.1 i inside unsettled

pub returns : goal.returns
returns c =
    let job = c.args.job.now in
    quiet_by c.args.graphs.now.graphs c.requires.0 job c.requires.1 c.if-job-ne0.false (λ k below. c.loop-place.invariant k (omega (arith, job.candidates.ok.0)))
