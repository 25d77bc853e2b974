use Rattle.std.proofs.Common.{◌≡◌, ◌++◌, take}
use Rattle.pisdf_model.specs.Details.{of_each}
use Rattle.param_resolver.specs.LevelOf.{state_links}
use Rattle.param_resolver.specs.Tables.{state_origins}
use Rattle.param_resolver.proofs.links.add_states.Given as goal

abbrev pub invariant-loop-number : goal.invariant-loop-number
invariant-loop-number l = record {
  links : l.links.links.items ≡ l.fn.links.links.items ++ of_each (λ a x. state_links l.graphs l.graph a x) (take l.number l.graph.actors);
  origins : l.links.origins.items ≡ l.fn.links.origins.items ++ of_each (λ a x. state_origins l.graphs a x) (take l.number l.graph.actors);
}
