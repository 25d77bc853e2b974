use Rattle.std.proofs.Common.{◌≡◌, List, IfOk, subst}
use Rattle.serde_json.specs.Written.{compact_text}
use Rattle.kernel_gate.specs.Signed.{SignatureView}
use Rattle.kernel_gate.specs.Table.{the_signatures}
use Rattle.pisdf_model.specs.declared.graph.Graphs.{Graphs}
use Rattle.graph_format.specs.Canonical.{canonical}
use Rattle.graph_format.specs.Kernels.{kernel_names}
use Rattle.pisdf_program.proofs.upgrade.file_of.Goals as goal

pub returns : goal.returns
returns c =
    subst (λ (g : Graphs). IfOk c.write.result (λ text. text.items ≡ compact_text (canonical (kernel_names the_signatures) g))) c.latest.ensures.latest
    (subst (λ (ss : List SignatureView). IfOk c.write.result (λ text. text.items ≡ compact_text (canonical (kernel_names ss) c.latest.result))) c.requires.kernels c.write.ensures.canonical)
