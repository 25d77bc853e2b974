use Rattle.sdf_level.specs.Laws.{among}
use Rattle.sdf_level.proofs.SameTokens.{rates}
use Rattle.sdf_level.proofs.FinalReads as law
use Rattle.sdf_level.proofs.laws.reads_final.Goals as goal

pub returns-clause-stay : goal.returns-clause-stay
returns-clause-stay g c = λ level sources delays made before later b starting rated less ready. law.reads_stay level sources delays made starting before later b less rated ready

pub returns-clause-last : goal.returns-clause-last
returns-clause-last g c = λ level sources delays made q list starting rated admissible. law.reads_final level sources delays made starting q list rated admissible

pub returns-clause-rates : goal.returns-clause-rates
returns-clause-rates g c = λ level firing sources delays made q list gives admissible told. rates level (among firing) sources delays q list made gives admissible told
