use Rattle.std.proofs.Common.{arith, refl}
use Rattle.audit_job.specs.declared.answer.Mark.TheVariants as stands
use Rattle.audit_job.proofs.MarkedJob.{claimed}
use Rattle.audit_job.proofs.marking.claim.Goals as goal

pub returns : goal.returns
returns c = claimed c.args.job.now _ refl refl refl refl c.args.item stands.Busy refl c.requires.inside c.requires.free refl c.take_out.ensures (λ low. let more = c.saturating_add-job.ensures in omega arith) refl
