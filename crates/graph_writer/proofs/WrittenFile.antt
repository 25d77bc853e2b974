-- What is written of graphs is read as these graphs again.
use Rattle.std.proofs.Common.{◌≡◌, ℕ, List, [], All, sym}
use Rattle.std.specs.Prelude.{Some, Ok, IsUtf8}
use Rattle.serde_json.specs.Data.{Data}
use Rattle.serde_json.specs.Read.{read}
use Rattle.kernel_gate.specs.Signed.{SignatureView}
use Rattle.param_expr.proofs.Printed.{printed_answers}
use Rattle.pisdf_model.specs.declared.graph.Graphs.{Graphs}
use Rattle.graph_format.proofs.NoFaults.{no_model_faults}
use Rattle.graph_format.proofs.Reading.{reads_file}
use Rattle.graph_format.specs.Canonical.{canonical}
use Rattle.graph_format.specs.Faults.{file_faults}
use Rattle.graph_format.specs.Kernels.{kernel_names}
use Rattle.graph_format.specs.Named.{named_file}
use Rattle.graph_format.specs.Placed.{placed, tokens_of}
use Rattle.graph_format.specs.Reads.{Reads}
use Rattle.graph_format.specs.States.{States}
use Rattle.graph_writer.specs.ReadAgain.{CanBeReadAgain, HasI64Tokens, WasRead}
use Rattle.graph_writer.proofs.Distinct.{all_differ}
use Rattle.graph_writer.proofs.CanonicalDelays.{fifos_shown}
use Rattle.graph_writer.proofs.FaultlessFile.{no_faults}
use Rattle.graph_writer.proofs.KnownReferences.{file_known}
use Rattle.graph_writer.proofs.PlacedGraphs.{named_then_placed}
use Rattle.graph_writer.proofs.CanonicalValue.{canonical_states_file}
use Rattle.graph_writer.proofs.ReadableGraphs.{read_can_be_read_again}

pub placed_as_before : (signatures : List SignatureView) (graphs : Graphs) → CanBeReadAgain signatures graphs → placed tokens_of (kernel_names signatures) (named_file (kernel_names signatures) graphs) ≡ graphs
placed_as_before signatures graphs can =
    named_then_placed signatures graphs (all_differ graphs (no_model_faults graphs can.well_formed).duplicates) can

pub faultless : (signatures : List SignatureView) (graphs : Graphs) → CanBeReadAgain signatures graphs → file_faults signatures (named_file (kernel_names signatures) graphs) ≡ []
faultless signatures graphs can =
    no_faults signatures graphs can
    (file_known (kernel_names signatures) graphs (all_differ graphs (no_model_faults graphs can.well_formed).duplicates) can.in_range)
    (placed_as_before signatures graphs can)

-- the canonical value states the file
states_again : (signatures : List SignatureView) (graphs : Graphs) → CanBeReadAgain signatures graphs → All HasI64Tokens graphs.graphs → States (canonical (kernel_names signatures) graphs) (named_file (kernel_names signatures) graphs)
states_again signatures graphs can tokens =
    canonical_states_file (λ text t answers. printed_answers t (record { text = text; answers = answers })) can.value (named_file (kernel_names signatures) graphs)
    (fifos_shown (kernel_names signatures) graphs tokens can.in_range (no_model_faults graphs can.well_formed).counts) can.stated

pub read_again : (signatures : List SignatureView) (graphs : Graphs) (bytes : List ℕ) → CanBeReadAgain signatures graphs → All HasI64Tokens graphs.graphs → IsUtf8 bytes → read bytes ≡ Some (canonical (kernel_names signatures) graphs) → Reads signatures bytes (Ok graphs)
read_again signatures graphs bytes can tokens utf8 is =
    let file = named_file (kernel_names signatures) graphs in
    let d = canonical (kernel_names signatures) graphs in
    reads_file signatures bytes file (Ok graphs) (d, (utf8, is), states_again signatures graphs can tokens) (faultless signatures graphs can) (sym (placed_as_before signatures graphs can))

-- what is written of graphs that were read is read as these graphs
pub read_rewritten : (signatures : List SignatureView) (before bytes : List ℕ) (graphs : Graphs) → WasRead signatures before graphs → All HasI64Tokens graphs.graphs → IsUtf8 bytes → read bytes ≡ Some (canonical (kernel_names signatures) graphs) → Reads signatures bytes (Ok graphs)
read_rewritten signatures before bytes graphs was tokens utf8 is =
    read_again signatures graphs bytes (read_can_be_read_again signatures before graphs was tokens) tokens utf8 is
