use Rattle.worker_crew.proofs.Compiling.{compiles}
use Rattle.worker_crew.proofs.laws.compilations_end.Goals as goal

pub returns : goal.returns
returns c = λ key taken w firing left is legal runs.
    compiles key is (c.rules_are_lawful.ensures key.graphs is.valid.valid) (c.jobs_mean_firings.ensures key.signatures key.graphs is.valid is.lengths) c.schedules_exist.ensures taken w firing left legal runs
