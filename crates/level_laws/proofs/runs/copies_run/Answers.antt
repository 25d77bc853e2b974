use Rattle.sdf_level.specs.Laws.{among}
use Rattle.level_laws.proofs.LevelCuts as law
use Rattle.level_laws.proofs.runs.copies_run.Goals as goal

pub returns : goal.returns
returns g c = λ times level firing sources starts q list end is gives starting admissible.
    (law.to_copies times level (among firing) sources starts q list end is gives starting admissible, law.from_copies times level (among firing) sources starts q list end is gives starting admissible)
