use Rattle.std.proofs.Common.{◌≡◌, length, ap, ◌∙◌}
use Rattle.one_job.proofs.starting.first_parts.Goals as goal

pub start_ready-requires : goal.start_ready-requires
start_ready-requires c =
    let waiting_are : c.in_ok-waiting.waiting.items ≡ c.wiring.result.now.into = c.in_ok-waiting.ensures.same ∙ c.items.ensures in
    ap length (c.deref.ensures.value ∙ waiting_are) ∙ c.wiring.ensures.into.one_each
