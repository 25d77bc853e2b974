use Rattle.firing_laws.proofs.Nesting.{graphs_below}
use Rattle.firing_laws.proofs.graphs_below.Goals as goal

pub returns : goal.returns
returns c = λ graphs top g valid is. graphs_below graphs top g valid is
