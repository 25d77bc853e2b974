use Rattle.std.proofs.Common.{◌≡◌, sym, subst, List, Ok, Err, true, false, map}
use Rattle.graph_format.specs.declared.graph_fault.GraphFault.TheVariants.{Memory}
use Rattle.kernel_gate.specs.Signed.{SignatureView, signature_view, unnamed}
use Rattle.pisdf_model.specs.declared.graph.Graphs.{Graphs}
use Rattle.pisdf_meaning.specs.Sound.{KernelsFit}
use Rattle.graph_format.specs.Reads.{AreReadAs, Reads}
use Rattle.pisdf_program.proofs.Reading.{fault_read, graphs_read}
use Rattle.pisdf_program.proofs.load.parse_graphs.Goals as goal

pub returns-in-Ok-clause-settles : goal.returns-in-Ok-clause-settles
returns-in-Ok-clause-settles c =
    let bytes = c.args.bytes.now in
    let graphs = c.in-Ok.graphs in
    graphs_read bytes graphs (subst (λ (s : List SignatureView). AreReadAs s bytes (Ok graphs)) c.requires c.in-Ok.ensures.exact)

pub returns-else-is_memory-clause-settles : goal.returns-else-is_memory-clause-settles
returns-else-is_memory-clause-settles c =
    let bytes = c.args.bytes.now in
    let fault = c.in-Err.fault in
    λ answer. fault_read bytes fault (subst (λ (s : List SignatureView). Reads s bytes (Err fault)) c.requires c.in-Err.ensures.exact)
    (λ (e : fault ≡ Memory). let yes : c.is_memory.result ≡ true = c.is_memory.ensures.1 e in let no : c.is_memory.result ≡ false = c.if-is_memory.false in absurd cc)

pub returns-in-Ok-clause-good : goal.returns-in-Ok-clause-good
returns-in-Ok-clause-good c =
    let graphs = c.in-Ok.graphs in
    let means = c.in-Ok.ensures.means in
    let stated = c.in-Ok.ensures.stated means.0 means.2.0 means.1 means.2.1 in
    let signatures = map signature_view c.args.signatures.now in
    let fit = subst (λ (g : Graphs). KernelsFit (unnamed signatures) g.graphs) (sym stated.1) (c.kernels_fit.ensures signatures means.2.0 stated.0) in
    record {
      valid = record {
        valid = record { in_range = c.in-Ok.ensures.in_range; well_formed = c.in-Ok.ensures.well_formed; named = c.in-Ok.ensures.named };
        kernels = subst (λ (s : List SignatureView). KernelsFit (unnamed s) graphs.graphs) c.requires fit;
      };
      writable = c.in-Ok.ensures.writable;
    }
