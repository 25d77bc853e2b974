use Rattle.std.proofs.Common.{◌≡◌, [], map, take}
use Rattle.std.specs.List.{flat_map}
use Rattle.kernel_gate.specs.Signed.{signature_view}
use Rattle.graph_format.specs.declared.actor.FileActor.{FileActor}
use Rattle.graph_format.specs.Kernels.{unfit_in_body}
use Rattle.graph_reader.proofs.kernels.unfit_in_actors.Given as goal

abbrev pub invariant-loop-actor : goal.invariant-loop-actor
invariant-loop-actor l = flat_map (λ (a : FileActor). unfit_in_body (map signature_view l.signatures) a.body) (take l.actor-index l.actors) ≡ []
