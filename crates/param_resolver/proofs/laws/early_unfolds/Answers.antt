use Rattle.param_resolver.proofs.Levels.{some_graph, unfolds}
use Rattle.param_resolver.proofs.Sound.{nested, resolvable}
use Rattle.param_resolver.proofs.laws.early_unfolds.Goals as goal

pub returns : goal.returns
returns c = λ graphs place inherited range well inside.
    unfolds graphs.graphs (resolvable graphs range well) (some_graph graphs.graphs place inside) place inside (nested graphs range well place inside) inherited
