use Rattle.firing_laws.proofs.TopsAlike.{initial_top_same, level_alike}
use Rattle.firing_laws.proofs.levels_alike.Goals as goal

pub returns-clause-level : goal.returns-clause-level
returns-clause-level c = λ top one other g inputs outputs differ below long. level_alike top one other differ g below inputs outputs long

pub returns-clause-state : goal.returns-clause-state
returns-clause-state c = λ top one other g inputs outputs differ below here there. initial_top_same top one other differ g below inputs outputs here there
