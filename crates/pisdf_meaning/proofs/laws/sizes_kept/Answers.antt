use Rattle.pisdf_meaning.proofs.MadeLevels.{levels_made}
use Rattle.pisdf_meaning.proofs.SoundGraphs.{well_kept}
use Rattle.pisdf_meaning.proofs.laws.sizes_kept.Goals as goal

pub returns : goal.returns
returns c = λ signatures graphs valid fit give firing given sound long means. well_kept graphs valid.well_formed signatures fit give (levels_made graphs valid.in_range valid.well_formed) firing given sound long means
