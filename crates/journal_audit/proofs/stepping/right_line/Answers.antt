use Rattle.std.proofs.Common.{◌≡◌, ℕ, List, ap, ◌∙◌}
use Rattle.std.specs.Prelude.{string_bytes}
use Rattle.pisdf_model.specs.declared.graph.Graph.{Graph}
use Rattle.job_rules.specs.Items.{graph_of}
use Rattle.board_rules.specs.Entries.{item_of}
use Rattle.board_rules.specs.declared.entry.Entry.TheVariants.{Claim}
use Rattle.board_rules.specs.declared.entry.ItemName.{ItemName}
use Rattle.quiescent_driver.specs.Journals.{entry_line}
use Rattle.audit_job.specs.Jobs.{IsJob}
use Rattle.journal_audit.proofs.Openings.{if_ok}
use Rattle.journal_audit.proofs.stepping.right_line.Goals as goal

pub returns : goal.returns
returns c =
    let path = c.args.job.now.firing.path in
    let line : ItemName → List ℕ = λ item. entry_line c.args.number (Claim c.args.worker path item) in
    if_ok c.claim_line.result
    (λ s. string_bytes s ≡ line c.item_of-named.result)
    (λ s. (graphs : List Graph) (workers : ℕ) → IsJob graphs workers c.args.job.now → string_bytes s ≡ line (item_of (graph_of graphs c.args.job.now.firing) c.args.item))
    (λ s is. λ graphs workers job. is ∙ ap line (c.item_of-named.ensures graphs workers job))
    c.claim_line.ensures
