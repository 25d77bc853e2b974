use Rattle.sdf_level.specs.Laws.{among}
use Rattle.level_laws.proofs.EqualParts.{parts_back, parts_there}
use Rattle.level_laws.proofs.runs.parts_run.Goals as goal

pub returns-clause-there : goal.returns-clause-there
returns-clause-there g c = λ times level firing sources starts q list end is gives starting holds admissible run. parts_there level q list is admissible times (among firing) sources starts end gives starting holds run

pub returns-clause-back : goal.returns-clause-back
returns-clause-back g c = λ times level firing sources starts q list outs left is gives starting holds admissible by. parts_back level q list is admissible times (among firing) sources starts outs left gives starting holds by
