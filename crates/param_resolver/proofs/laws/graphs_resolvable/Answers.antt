use Rattle.param_resolver.proofs.Sound.{resolvable}
use Rattle.param_resolver.proofs.laws.graphs_resolvable.Goals as goal

pub returns : goal.returns
returns c = λ graphs range well. resolvable graphs range well
