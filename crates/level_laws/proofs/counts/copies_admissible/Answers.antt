use Rattle.level_laws.proofs.Copies as law
use Rattle.level_laws.proofs.counts.copies_admissible.Goals as goal

pub returns : goal.returns
returns c = λ times level q list is admissible. law.copies_admissible times level q list is admissible
