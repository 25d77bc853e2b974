use Rattle.level_laws.proofs.Multiplied as law
use Rattle.level_laws.proofs.counts.unfolded_level.Goals as goal

pub returns : goal.returns
returns c = λ times level is sources sinks. law.unfolded_level times level is sources sinks
