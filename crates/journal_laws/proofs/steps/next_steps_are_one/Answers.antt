use Rattle.journal_laws.proofs.Nexts.{one_next}
use Rattle.journal_laws.proofs.steps.next_steps_are_one.Goals as goal

pub returns : goal.returns
returns c = λ key taken one other is a b same. one_next key is c.workers_are_answered.ensures.once c.entries_tell_steps.ensures.answers taken one other a b same
