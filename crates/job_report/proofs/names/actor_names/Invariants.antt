use Rattle.std.proofs.Common.{◌≡◌, ◌++◌, drop}
use Rattle.std.specs.List.{flat_map}
use Rattle.pisdf_model.specs.declared.actor.Actor.{Actor}
use Rattle.job_report.specs.Names.{actor_name, actor_names}
use Rattle.job_report.proofs.names.actor_names.Given as goal

-- the names so far, and those of the actors that are left, are all
abbrev pub invariant-loop-actor : goal.invariant-loop-actor
invariant-loop-actor l = l.names.items ++ flat_map (λ (actor : Actor). actor_name actor) (drop l.actor-index l.graph.actors) ≡ actor_names l.graph
