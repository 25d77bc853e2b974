use Rattle.worker_crew.proofs.Lending.{lent_once}
use Rattle.worker_crew.proofs.laws.cells_are_lent_once.Goals as goal

pub returns : goal.returns
returns c = lent_once
