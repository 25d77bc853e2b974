use Rattle.job_rules.proofs.Lawfully.{lawful}
use Rattle.job_rules.proofs.laws.rules_are_lawful.Goals as goal

pub returns : goal.returns
returns c = λ graphs valid. lawful graphs valid.in_range valid.well_formed c.ready_stays.ensures.ready c.ready_stays.ensures.inputs
