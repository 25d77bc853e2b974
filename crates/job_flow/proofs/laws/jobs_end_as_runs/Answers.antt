use Rattle.job_flow.proofs.Jobs.{job-ends, job-finishes}
use Rattle.job_flow.proofs.laws.jobs_end_as_runs.Goals as goal

pub returns-clause-runs : goal.returns-clause-runs
returns-clause-runs g c = λ token q turns job firing v is settled. job-ends c.graph_laws.ensures q turns job is firing v settled c.tokens_delivered.ensures.one_flow c.tokens_delivered.ensures.runs c.tokens_delivered.ensures.faults token

pub returns-clause-finished : goal.returns-clause-finished
returns-clause-finished g c = λ q turns job firing v is settled none n inside. job-finishes c.graph_laws.ensures q turns job is firing v settled none n inside
