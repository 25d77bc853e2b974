use Rattle.std.proofs.Common.{map, sym}
use Rattle.kernel_gate.specs.Signed.{signature_view}
use Rattle.graph_format.specs.declared.actor.FileActor.{FileActor}
use Rattle.graph_format.specs.Kernels.{unfit_in_body}
use Rattle.pisdf_model.specs.declared.detail_fault.DetailFault.TheVariants.{Fault}
use Rattle.graph_reader.proofs.Each.{first_at}
use Rattle.graph_reader.proofs.kernels.unfit_in_actors.Goals as goal

pub returns-in-Some : goal.returns-in-Some
returns-in-Some c =
    sym (first_at (λ (a : FileActor). unfit_in_body (map signature_view c.args.signatures.now) a.body) c.args.actors.now c.loop-actor.actor-index c.actor-item.result (Fault c.in-Some.kernel.now) c.loop-actor-test.true c.actor-item.is c.loop-actor.invariant (sym c.in-Some.ensures))
