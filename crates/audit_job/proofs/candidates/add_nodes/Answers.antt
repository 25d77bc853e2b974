use Rattle.std.proofs.Common.{◌≡◌, ℕ, List, length, sym, ap, ◌∙◌, subst, arith}
use Rattle.std.specs.Prelude.{OnOk, slice_index}
use Rattle.audit_job.specs.Candidates.{Adds, waits_in}
use Rattle.audit_job.proofs.ItemLists.{none_added}
use Rattle.audit_job.proofs.candidates.add_nodes.Goals as goal

pub returns-in-Some-clause-added : goal.returns-in-Some-clause-added
returns-in-Some-clause-added c =
    subst (λ (l : List ℕ). OnOk c.add_free.result (Adds c.args.first (length l) (λ n. slice_index l n ≡ 0) c.args.candidates.now c.add_free.new.candidates)) (c.deref.ensures.value ∙ sym (ap waits_in c.in-Some.is)) c.add_free.ensures.added

pub returns-in-None-clause-added : goal.returns-in-None-clause-added
returns-in-None-clause-added c =
    none_added c.args.first (length (waits_in c.args.nodes.now)) (λ n. slice_index (waits_in c.args.nodes.now) n ≡ 0) c.args.candidates.now
    (λ n below holds. let none = ap (λ o. length (waits_in o)) c.in-None.is in absurd (omega arith))
