use Rattle.param_resolver.specs.Refusal.{level_refusal_of}
use Rattle.pisdf_meaning.proofs.FirstRefusals.{known_refuses}
use Rattle.pisdf_meaning.proofs.causes.level_refused.Goals as goal

pub returns : goal.returns
returns c = λ faults values first. known_refuses c.args.graphs.now c.args.graph.now c.args.path.now (level_refusal_of c.args.fault) c.level_cause-cause.result c.refused_for.result values c.level_cause-cause.ensures c.refused_for.ensures.refused c.refused_for.ensures.known faults first
