use Rattle.sdf_level.specs.Laws.{among}
use Rattle.sdf_level.proofs.KeptLengths.{leaves_delays, keeps_rates}
use Rattle.sdf_level.proofs.laws.lengths_kept.Goals as goal

pub returns-clause-delays : goal.returns-clause-delays
returns-clause-delays g c = λ level firing sources delays q list lines sound is gives starting admissible run. leaves_delays level (among firing) sources delays q list lines sound is gives starting admissible run

pub returns-clause-rates : goal.returns-clause-rates
returns-clause-rates g c = λ level firing sources delays q list lines sound is gives starting admissible run. keeps_rates level (among firing) sources delays q list lines sound is gives starting admissible run
