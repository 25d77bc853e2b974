use Rattle.level_laws.proofs.Copies as law
use Rattle.level_laws.proofs.counts.unfolded_scheduled.Goals as goal

pub returns : goal.returns
returns c = λ times level s some is scheduled within. law.unfolded_scheduled times level s some is scheduled within
