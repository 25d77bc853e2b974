use Rattle.std.proofs.Common.{◌≡◌, List, ℕ, Ok, Err, Result, map, subst}
use Rattle.graph_format.specs.Reads.{AreReadAs}
use Rattle.graph_writer.specs.ReadAgain.{WasRead}
use Rattle.kernel_gate.specs.Signed.{SignatureView, signature_view}
use Rattle.pisdf_model.specs.declared.graph.Graphs.{Graphs}
use Rattle.pisdf_program.specs.Soak.{soak_file}
use Rattle.pisdf_program.specs.Loaded.{Settles}
use Rattle.pisdf_program.specs.Result.{read_graphs}
use Rattle.pisdf_program.specs.declared.status.Status.{Status}
use Rattle.pisdf_program.proofs.SoakFile.{only_memories, only_memory, read_again}
use Rattle.pisdf_program.proofs.soak.soak_graphs.Goals as goal

unread_file : (c : goal.In-Err) → c.as_bytes.result.now ≡ soak_file
unfolding soak_file
unread_file c = c.as_bytes.ensures.value

read_file : (c : goal.After-drop-graphs-2) → c.as_bytes.result.now ≡ soak_file
unfolding soak_file
read_file c = c.as_bytes.ensures.value

pub returns-in-Err-clause-settles : goal.returns-in-Err-clause-settles
returns-in-Err-clause-settles c = λ answer. subst (λ (bytes : List ℕ). read_graphs bytes ≡ Err c.in-Err.status) (unread_file c) (c.in-Err.ensures.settles answer)

pub returns-clause-settles : goal.returns-clause-settles
returns-clause-settles c =
    let graphs = c.in-Ok.graphs in
    let bytes = c.as_slice.result.now in
    let is : read_graphs soak_file ≡ Ok graphs = subst (λ (bytes : List ℕ). read_graphs bytes ≡ Ok graphs) (read_file c) c.in-Ok.ensures.settles in
    let again : WasRead (map signature_view c.args.signatures.now) soak_file graphs → AreReadAs (map signature_view c.args.signatures.now) c.in-Ok-write.file.items (Ok graphs) = λ was. c.in-Ok-write.ensures.rewritten soak_file was in
    subst (λ (r : Result Graphs Status). Settles r c.parse_graphs.result)
    (read_again bytes graphs is (subst (λ (s : List SignatureView). WasRead s soak_file graphs → AreReadAs s bytes (Ok graphs)) c.requires (rw c.as_slice.ensures.value again)))
    c.parse_graphs.ensures.settles

pub returns-in-Err-clause-memory : goal.returns-in-Err-clause-memory
returns-in-Err-clause-memory c = only_memory c.in-Err.status c.in-Err.ensures.faults (λ answer. subst (λ (bytes : List ℕ). read_graphs bytes ≡ Err c.in-Err.status) (unread_file c) (c.in-Err.ensures.settles answer))

pub returns-clause-memory : goal.returns-clause-memory
returns-clause-memory c = only_memories c.parse_graphs.result c.parse_graphs.ensures.faults (returns-clause-settles c)
