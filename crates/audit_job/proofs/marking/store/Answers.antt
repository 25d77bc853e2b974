use Rattle.std.proofs.Common.{◌≡◌, ℕ, ◌+◌, ◌-◌, length, refl, ap, ◌∙◌, subst, arith}
use Rattle.std.specs.Vec.{with_item}
use Rattle.audit_job.specs.Candidates.{Adds, IsReleased, waits_in}
use Rattle.audit_job.specs.declared.answer.Mark.TheVariants as stands
use Rattle.audit_job.proofs.Stored.{marks_so, may_so, runs_inside}
use Rattle.audit_job.proofs.marking.store.Goals as goal

pub release_after-requires-clause-may : goal.release_after-requires-clause-may
release_after-requires-clause-may c =
    let job = c.args.job.now in
    let counted : c.len-base.result ≡ length job.places.items = omega (arith, job.places.ok.0) in
    let node = c.saturating_sub-node.ensures ∙ ap (λ (k : ℕ). c.args.item - (k + 1)) counted in
    may_so job c.args.item c.args.answer (runs_inside job.marks.items c.args.item c.requires.runs) c.requires.runs c.requires.other c.requires.unscheduled (with_item job.marks c.args.item (stands.Done c.args.answer)) refl c.gives-given.result c.gives-given.ensures c.saturating_sub-node.result node c.requires.is.0 c.requires.is.1 c.requires.is.2

pub returns : goal.returns
returns c =
    let job = c.args.job.now in
    let counted : c.len-base.result ≡ length job.places.items = omega (arith, job.places.ok.0) in
    let node = c.saturating_sub-node.ensures ∙ ap (λ (k : ℕ). c.args.item - (k + 1)) counted in
    let added = subst (λ (k : ℕ). Adds (k + 1) (length (waits_in job.nodes)) (IsReleased (waits_in job.nodes) (waits_in c.release_after.new.nodes)) job.candidates c.release_after.new.candidates) counted c.release_after.ensures.added in
    marks_so job c.args.item c.args.answer (runs_inside job.marks.items c.args.item c.requires.runs) c.requires.runs c.requires.other c.requires.unscheduled (with_item job.marks c.args.item (stands.Done c.args.answer)) refl c.gives-given.result c.gives-given.ensures c.saturating_sub-node.result node _ refl refl refl refl
    c.release_after.ensures.released (record { added = added; room = c.release_after.ensures.room }) c.saturating_sub-job.ensures
