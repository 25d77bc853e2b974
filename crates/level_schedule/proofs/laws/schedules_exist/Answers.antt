use Rattle.level_schedule.proofs.Existing.{has_answer}
use Rattle.level_schedule.proofs.laws.schedules_exist.Goals as goal

pub returns : goal.returns
returns c = λ level is. has_answer level is
