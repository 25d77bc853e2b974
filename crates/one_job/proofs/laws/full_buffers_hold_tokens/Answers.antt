use Rattle.one_job.proofs.ImagesHold.{events_hold}
use Rattle.one_job.proofs.laws.full_buffers_hold_tokens.Goals as goal

pub returns : goal.returns
returns c = λ k events is are. (events_hold k events is are).full
