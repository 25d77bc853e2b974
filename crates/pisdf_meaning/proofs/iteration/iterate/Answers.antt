use Rattle.kernel_gate.specs.Signed.{unnamed}
use Rattle.pisdf_meaning.proofs.iteration.iterate.Goals as goal

pub top_early-requires-clause-none_inherited : goal.top_early-requires-clause-none_inherited
top_early-requires-clause-none_inherited g c = (c.runnable.ensures (unnamed (g.K.Gate.kernels c.args.gate.now)) c.args.graphs.now c.requires.valid).none_inherited

pub iterate_from-end-requires-clause-runnable : goal.iterate_from-end-requires-clause-runnable
iterate_from-end-requires-clause-runnable g c = c.runnable.ensures (unnamed (g.K.Gate.kernels c.args.gate.now)) c.args.graphs.now c.requires.valid
