use Rattle.std.proofs.Common.{List, map, subst, sym}
use Rattle.kernel_gate.specs.Signed.{SignatureView, signature_view, unnamed}
use Rattle.pisdf_meaning.specs.Sound.{KernelsFit}
use Rattle.pisdf_model.specs.declared.graph.Graphs.{Graphs}
use Rattle.board_calls.proofs.given.graphs_of.Goals as goal

-- what was read is what a file without a fault means, so its kernels fit the signatures that it was read with
pub returns-in-Ok : goal.returns-in-Ok
returns-in-Ok c =
    let signatures = map signature_view c.signatures.result.now in
    let means = c.in-Ok.ensures.means in
    let stated = c.in-Ok.ensures.stated means.0 means.2.0 means.1 means.2.1 in
    let fit = subst (λ (g : Graphs). KernelsFit (unnamed signatures) g.graphs) (sym stated.1) (c.kernels_fit.ensures signatures means.2.0 stated.0) in
    record {
      valid = record { in_range = c.in-Ok.ensures.in_range; well_formed = c.in-Ok.ensures.well_formed; named = c.in-Ok.ensures.named };
      kernels = subst (λ (s : List SignatureView). KernelsFit (unnamed s) c.in-Ok.graphs.graphs) c.signatures.ensures.kernels fit;
    }
