use Rattle.pisdf_meaning.proofs.OneLevel.{only_level, only_unlevelled}
use Rattle.pisdf_meaning.proofs.iteration.top_level.Goals as goal

pub returns-clause-only_level : goal.returns-clause-only_level
returns-clause-only_level g c = only_level c.args.graphs.now c.args.ins.now c.args.delays.now.lists c.lead_to_level.result c.lead_to_level.ensures.level c.lead_to_level.ensures.refused

pub returns-clause-only_refused : goal.returns-clause-only_refused
returns-clause-only_refused g c = only_unlevelled c.args.graphs.now c.args.ins.now c.args.delays.now.lists c.lead_to_level.result c.lead_to_level.ensures.level c.lead_to_level.ensures.refused
