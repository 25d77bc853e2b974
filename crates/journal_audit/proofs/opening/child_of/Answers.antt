use Rattle.std.proofs.Common.{◌≡◌, ℕ, Some, sym, ◌∙◌, subst}
use Rattle.job_rules.specs.Items.{rule}
use Rattle.job_rules.specs.Meant.{IsFit}
use Rattle.job_rules.specs.Words as words
use Rattle.nested_jobs.specs.Rules.{Call, Task}
use Rattle.pisdf_meaning.specs.declared.firing.Firing.{Firing}
use Rattle.audit_job.specs.Marks.{answers}
use Rattle.journal_audit.proofs.opening.child_of.Goals as goal

call_same : (a b : Firing) → ◌≡◌ {A = Task Firing words.Work} (Call a) (Call b) → a ≡ b
call_same a b e = cc

pub call_of-requires-clause-call : goal.call_of-requires-clause-call
call_of-requires-clause-call c = (c.requires.call.0, c.requires.call.1)

pub open-requires-clause-fit : goal.open-requires-clause-fit
open-requires-clause-fit c =
    let same : c.requires.call.0 ≡ c.in_ok-firing.firing = (let a = c.requires.call.1 in let b = c.in_ok-firing.ensures.task in let e = sym a ∙ b in cc) in
    subst (IsFit c.args.graphs.now.graphs) same c.requires.call.2

pub returns : goal.returns
returns c =
    let called = c.of-called.ensures in
    let graphs = c.args.graphs.now.graphs in
    let upper = c.args.upper.now in
    let place = c.in_ok-place.ensures in
    let firing = c.in_ok-job.ensures.firing ∙ sym called in
    let free = c.in_ok-job.ensures.free in
    record {
      task_is = subst (λ (d : Firing). rule graphs upper.job.firing (answers upper.job.marks.items) c.args.item ≡ Some (Call d)) (sym called) c.in_ok-firing.ensures.task;
      row_is = λ x. record { place = place x; job = firing x; marks = λ (i : ℕ). free i x };
      is_job = λ workers. c.in_ok-job.ensures.is workers;
    }
