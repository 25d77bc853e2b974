use Rattle.std.proofs.Common.{refl}
use Rattle.std.specs.Arc.{arc_value}
use Rattle.kernel_gate.specs.Signed.{unnamed}
use Rattle.quiescent_driver.proofs.OneAnswer.{only_given, only_refused, state_left}
use Rattle.quiescent_driver.proofs.iteration.run_iteration_by.Goals as goal

pub returns-clause-only_given : goal.returns-clause-only_given
returns-clause-only_given g c = only_given (arc_value c.args.graphs.now) c.args.ins.now c.args.delays.now.lists (c.one_meaning.ensures.firings (arc_value c.args.graphs.now).graphs) c.iterate.result c.iterate.new.delays.lists c.iterate.ensures.gives c.iterate.ensures.refused

pub returns-clause-only_refused : goal.returns-clause-only_refused
returns-clause-only_refused g c = only_refused (arc_value c.args.graphs.now) c.args.ins.now c.args.delays.now.lists (c.one_meaning.ensures.firings (arc_value c.args.graphs.now).graphs) c.iterate.result c.iterate.new.delays.lists c.iterate.ensures.gives c.iterate.ensures.refused

pub returns-clause-state : goal.returns-clause-state
returns-clause-state g c =
    let graphs = arc_value c.args.graphs.now in
    let kernels = unnamed (g.K.Gate.kernels c.args.gate.now) in
    let valid = c.requires.valid in
    let fit = (c.runnable.ensures kernels graphs valid).fit in
    let keeps = c.sizes_kept.ensures kernels graphs valid.valid fit c.signatures-signatures.ensures.lengths in
    state_left graphs c.args.ins.now c.args.delays.now.lists keeps c.requires.sound c.requires.state c.iterate.result c.args.delays.now c.iterate.new.delays refl c.iterate.ensures.gives c.iterate.ensures.unchanged
