use Rattle.sdf_level.specs.Laws.{among}
use Rattle.sdf_level.proofs.MappedRuns.{mapped_run, mapped_level_run, lines_image, inputs_image}
use Rattle.sdf_level.proofs.laws.runs_mapped.Goals as goal

pub returns-clause-runs : goal.returns-clause-runs
returns-clause-runs g c = λ level f firing other sources delays list end respects run. mapped_run f level (among firing) (among other) respects sources delays list end run

pub returns-clause-level_runs : goal.returns-clause-level_runs
returns-clause-level_runs g c = λ level q f firing other sources delays end respects run. mapped_level_run f level (among firing) (among other) respects sources q delays end run

pub returns-clause-lines : goal.returns-clause-lines
returns-clause-lines g c = λ f made fired links starts. lines_image f made fired links starts

pub returns-clause-reads : goal.returns-clause-reads
returns-clause-reads g c = λ f sources lines links b k. inputs_image f sources lines links b k
