use Rattle.worker_crew.proofs.Steps.{board_laws}
use Rattle.worker_crew.proofs.laws.board_laws.Goals as goal

pub returns : goal.returns
returns c = λ key is. board_laws key is (c.rules_are_lawful.ensures key.graphs is.valid.valid) c.entries_tell_steps.ensures.steps
