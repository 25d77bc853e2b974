use Rattle.firing_laws.proofs.Nesting.{below_there}
use Rattle.firing_laws.proofs.below_there.Goals as goal

pub returns : goal.returns
returns c = λ top one other differ place below. below_there top one other differ place below
