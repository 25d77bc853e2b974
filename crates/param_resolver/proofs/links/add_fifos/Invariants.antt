use Rattle.std.proofs.Common.{◌≡◌, ℤ, List, ◌++◌, take}
use Rattle.pisdf_model.specs.Details.{of_each}
use Rattle.param_resolver.specs.LevelOf.{fifo_links, level_outs}
use Rattle.param_resolver.specs.Tables.{fifo_origins, level_ins}
use Rattle.param_resolver.proofs.links.add_fifos.Given as goal

abbrev pub invariant-loop-number : goal.invariant-loop-number
invariant-loop-number l = record {
  links : (values : List ℤ) → l.acting.ins.items ≡ level_ins l.graphs l.graph values → l.acting.outs.items ≡ level_outs l.graphs l.graph values → l.links.links.items ≡ l.fn.links.links.items ++ of_each (λ i f. fifo_links l.graphs l.graph values f) (take l.number l.graph.fifos);
  origins : l.links.origins.items ≡ l.fn.links.origins.items ++ of_each (λ i f. fifo_origins l.graph i f) (take l.number l.graph.fifos);
}
