use Rattle.kernel_gate.specs.Signed.{unnamed}
use Rattle.pisdf_meaning.proofs.iteration.lead_to_level.Goals as goal

pub top_early-requires-clause-none_inherited : goal.top_early-requires-clause-none_inherited
top_early-requires-clause-none_inherited g c = (c.runnable.ensures (unnamed (g.K.Gate.kernels c.args.gate.now)) c.args.graphs.now c.requires.valid).none_inherited

pub lead_from-end-requires-clause-runnable : goal.lead_from-end-requires-clause-runnable
lead_from-end-requires-clause-runnable g c = c.runnable.ensures (unnamed (g.K.Gate.kernels c.args.gate.now)) c.args.graphs.now c.requires.valid
