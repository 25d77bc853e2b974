use Rattle.std.proofs.Common.{List, map, sym, ap, ◌∙◌}
use Rattle.std.specs.List.{flat_map}
use Rattle.kernel_gate.specs.Signed.{signature_view}
use Rattle.graph_format.specs.declared.actor.FileActor.{FileActor}
use Rattle.graph_format.specs.Kernels.{unfit_in_body, unfit_in_graph}
use Rattle.pisdf_model.specs.declared.detail_fault.DetailFault.TheVariants.{Fault}
use Rattle.pisdf_model.specs.Details.{first}
use Rattle.graph_reader.proofs.Each.{first_at}
use Rattle.graph_reader.proofs.kernels.unfit_in_graphs.Goals as goal

pub returns-in-Some : goal.returns-in-Some
returns-in-Some c =
    let signatures = map signature_view c.args.signatures.now in
    sym (first_at (unfit_in_graph signatures) c.args.graphs.now c.loop-graph.graph-index c.graph-item.result (Fault c.in-Some.kernel.now) c.loop-graph-test.true c.graph-item.is c.loop-graph.invariant
    (sym (c.in-Some.ensures ∙ ap (λ (actors : List FileActor). first (flat_map (λ (a : FileActor). unfit_in_body signatures a.body) actors)) c.items.ensures)))
