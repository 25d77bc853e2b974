use Rattle.sdf_level.proofs.Balanced as law
use Rattle.sdf_level.proofs.laws.repetition_suffices.Goals as goal

pub returns : goal.returns
returns c = λ level q sound is. law.repetition_suffices level q sound is
