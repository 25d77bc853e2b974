use Rattle.std.proofs.Common.{arith, refl}
use Rattle.audit_job.specs.declared.answer.Mark.TheVariants as stands
use Rattle.audit_job.proofs.MarkedJob.{opened}
use Rattle.audit_job.proofs.NamedItems.{no_compilation}
use Rattle.audit_job.proofs.marking.mark_open.Goals as goal

pub returns : goal.returns
returns c =
    let call = c.requires.call in
    opened c.args.job.now _ refl refl refl refl c.args.item (stands.Open c.args.called) refl c.requires.inside c.requires.free refl c.take_out.ensures (λ low. let more = c.saturating_add-job.ensures in omega arith)
    (no_compilation call.0 call.1 c.args.job.now call.2 c.args.item c.args.called.value call.3)
