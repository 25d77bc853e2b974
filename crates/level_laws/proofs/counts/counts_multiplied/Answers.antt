use Rattle.level_laws.proofs.Multiplied as law
use Rattle.level_laws.proofs.counts.counts_multiplied.Goals as goal

pub returns : goal.returns
returns c = λ times level q some is. law.counts_multiplied times level q some is
