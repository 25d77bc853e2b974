use Rattle.sdf_level.specs.Laws.{among}
use Rattle.level_laws.proofs.Cutting as law
use Rattle.level_laws.proofs.runs.runs_cut.Goals as goal

pub returns : goal.returns
returns g c = λ times level firing sources starts q list lines is gives starting holds admissible. (
  law.cut times level (among firing) sources q list is holds admissible.counts starts gives starting admissible lines,
  law.uncut times level (among firing) sources q list is holds admissible.counts starts gives starting admissible lines,
)
