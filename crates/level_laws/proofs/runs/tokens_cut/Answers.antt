use Rattle.level_laws.proofs.CutReads as law
use Rattle.level_laws.proofs.runs.tokens_cut.Goals as goal

pub returns : goal.returns
returns g c = λ times level sources holds. law.tokens_cut times level sources holds
