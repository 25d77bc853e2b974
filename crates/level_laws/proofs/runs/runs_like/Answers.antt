use Rattle.sdf_level.specs.Laws.{among}
use Rattle.level_laws.proofs.WiderRuns as law
use Rattle.level_laws.proofs.runs.runs_like.Goals as goal

pub returns : goal.returns
returns g c = λ level firing other sources starts q end like run. law.level_run_like level (among firing) (among other) like sources q starts end run
