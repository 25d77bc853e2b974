use Rattle.sdf_level.specs.Laws.{among}
use Rattle.level_laws.proofs.InTurn.{at_once, in_turn}
use Rattle.level_laws.proofs.LevelCuts as law
use Rattle.level_laws.proofs.runs.level_runs_cut.Goals as goal

pub returns-clause-one : goal.returns-clause-one
returns-clause-one g c = λ times level firing sources starts q list end is gives starting holds admissible.
    (law.level_cut times level (among firing) sources starts q list end is gives starting holds admissible, law.level_uncut times level (among firing) sources starts q list end is gives starting holds admissible)

pub returns-clause-all : goal.returns-clause-all
returns-clause-all g c = λ times level firing sources starts q list end is gives starting holds admissible.
    (in_turn level q list is admissible times (among firing) sources starts end gives starting holds, at_once level q list is admissible times (among firing) sources starts end gives starting holds)
