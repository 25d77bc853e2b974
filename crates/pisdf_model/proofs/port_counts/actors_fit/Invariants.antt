use Rattle.std.proofs.Common.{◌≡◌}
use Rattle.pisdf_model.specs.Ports.{actor_ports, inherited_counts}
use Rattle.pisdf_model.proofs.Walking.{Stands}
use Rattle.pisdf_model.proofs.port_counts.actors_fit.Given as goal

abbrev pub invariant-loop-actor : goal.invariant-loop-actor
invariant-loop-actor g l = l.inherited ≡ inherited_counts l.graphs → Stands 0 (λ a actor. actor_ports (g.C.Counts.fits l.counts) l.graphs actor) l.actor-index l.actors
