use Rattle.job_flow.proofs.Words.{ready-to, ready-from, inputs-same, quiet-to, failure-same, ended-same}
use Rattle.job_flow.proofs.laws.faults_renamed.Goals as goal

pub returns-clause-ready : goal.returns-clause-ready
returns-clause-ready g c = λ job f v n. (ready-to f v job n, ready-from f v job n)

pub returns-clause-inputs : goal.returns-clause-inputs
returns-clause-inputs g c = λ job f v n. inputs-same f v job n

pub returns-clause-quiet : goal.returns-clause-quiet
returns-clause-quiet g c = λ job f v quiet. quiet-to f v job quiet

pub returns-clause-failure : goal.returns-clause-failure
returns-clause-failure g c = λ job f v. failure-same f v job

pub returns-clause-ended : goal.returns-clause-ended
returns-clause-ended g c = λ job f v. ended-same f v job
