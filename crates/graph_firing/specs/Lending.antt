-- How the nodes of a job are lent.
use Rattle.std.specs.Borrow.{Fml, Lends, MutBor}
use Rattle.graph_firing.specs.Nodes.View.{RunningView}
use Rattle.graph_firing.specs.contracts.nodes.running.Running as running
use Rattle.graph_firing.specs.contracts.stage.Stage as stage
use Rattle.graph_firing.specs.declared.stage.Stage.{Stage}
use Rattle.graph_firing.specs.declared.stage.Stage.TheVariants.{Nodes}

-- the job has the nodes then as they were left
abbrev pub LendsNodes : MutBor Stage → MutBor RunningView → Fml
LendsNodes s r = Lends stage.the_row running.the_row s r (λ w. Nodes w)
