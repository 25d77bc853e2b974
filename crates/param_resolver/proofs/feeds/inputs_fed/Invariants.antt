use Rattle.std.proofs.Common.{get_or}
use Rattle.pisdf_model.specs.declared.graph.Interface.{Interface}
use Rattle.pisdf_model.proofs.Walking.{Stands}
use Rattle.param_resolver.specs.EarlyCheck.{feeding, unfed}
use Rattle.param_resolver.proofs.feeds.inputs_fed.Given as goal

abbrev pub invariant-loop-port : goal.invariant-loop-port
invariant-loop-port l = Stands 0 (λ j (x : Interface). unfed l.actor x.name (get_or l.rates (feeding l.graph.fifos l.number j) 0) (get_or l.taken j 0)) l.port l.inputs
