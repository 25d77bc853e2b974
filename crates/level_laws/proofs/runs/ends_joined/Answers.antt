use Rattle.sdf_level.specs.Laws.{among}
use Rattle.level_laws.proofs.JoinedEnds as law
use Rattle.level_laws.proofs.runs.ends_joined.Goals as goal

pub returns : goal.returns
returns g c = λ times level firing sources starts q list lines is gives starting admissible cut. law.ends_joined times level (among firing) sources starts q list lines is gives starting admissible cut
