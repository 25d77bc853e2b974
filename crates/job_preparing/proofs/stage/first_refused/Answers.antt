use Rattle.std.proofs.Common.{Option, sym, ap, ◌∙◌}
use Rattle.pisdf_meaning.specs.declared.refusal.Refusal.{Refusal}
use Rattle.job_preparing.specs.Stages.{or_else, refusal_of}
use Rattle.job_preparing.proofs.Leaving.{refusal_more}
use Rattle.job_preparing.proofs.stage.first_refused.Goals as goal

pub loop-stage-preserved : goal.loop-stage-preserved
loop-stage-preserved c = c.refusal_after-found.ensures ∙ ap (λ (o : Option Refusal). or_else o (refusal_of c.in-Some.stage)) c.loop-stage.invariant ∙ sym (refusal_more c.loop-stage.yielded c.in-Some.stage)
