use Rattle.std.proofs.Common.{◌≡◌, ◌∙◌, ap, subst, sym}
use Rattle.journal_audit.specs.declared.verdict.Verdict.{Verdict}
use Rattle.pisdf_program.specs.Result.{judged}
use Rattle.pisdf_program.specs.Worked.{Works}
use Rattle.pisdf_program.specs.declared.status.Status.TheVariants.{JournalRefused}
use Rattle.pisdf_program.specs.declared.status.JournalCause.TheVariants.{Illegal}
use Rattle.pisdf_program.proofs.Working.{refused_by}
use Rattle.pisdf_program.proofs.audit.tell_verdict.Goals as goal

pub returns-in-Legal-clause-works : goal.returns-in-Legal-clause-works
returns-in-Legal-clause-works g c =
    let sink = g.O.Sink in
    subst (λ (v : Verdict). Works (λ o. o ≡ judged v) (sink.written c.args.out.now) (sink.written c.put_legal.new.out) (sink.faults c.args.out.now) (sink.faults c.put_legal.new.out) c.put_legal.result)
    (sym c.in-Legal.is) c.put_legal.ensures.works

pub returns-in-Illegal-clause-works : goal.returns-in-Illegal-clause-works
returns-in-Illegal-clause-works g c = λ o e. refused_by (JournalRefused (Illegal c.in-Illegal.line)) (g.O.Sink.written c.args.out.now) o (e ∙ ap judged c.in-Illegal.is)

pub returns-in-Illegal-clause-read : goal.returns-in-Illegal-clause-read
returns-in-Illegal-clause-read g c = (λ w e. absurd cc, λ e. absurd cc)
