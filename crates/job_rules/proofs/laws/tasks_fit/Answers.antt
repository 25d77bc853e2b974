use Rattle.nested_jobs.specs.Rules.{Work, Call}
use Rattle.job_rules.specs.Words.{Fires}
use Rattle.job_rules.proofs.Fitted.{task_fits}
use Rattle.job_rules.proofs.laws.tasks_fit.Goals as goal

pub returns-clause-kernels : goal.returns-clause-kernels
returns-clause-kernels c = λ signatures graphs valid firing v i spot asked fitted is. task_fits signatures graphs valid.valid.in_range valid.valid.well_formed (c.runnable.ensures signatures graphs valid).fit firing fitted v (Work (Fires spot asked)) i is

pub returns-clause-calls : goal.returns-clause-calls
returns-clause-calls c = λ signatures graphs valid firing v i d fitted is. task_fits signatures graphs valid.valid.in_range valid.valid.well_formed (c.runnable.ensures signatures graphs valid).fit firing fitted v (Call d) i is
