use Rattle.std.proofs.Common.{◌∙◌}
use Rattle.std.proofs.lemmas.Bool.{OnTrue_at, OnTrue_from}
use Rattle.job_calls.proofs.Lasting.{have_delays}
use Rattle.job_calls.proofs.starting.are_delays.Goals as goal

pub returns : goal.returns
returns c = OnTrue_from c.are_long.result _ (λ is. have_delays c.args.links.now c.args.lists.now (OnTrue_at is c.are_long.ensures ∙ (c.deref.ensures.value ∙ c.in_ok-delays.ensures)))
