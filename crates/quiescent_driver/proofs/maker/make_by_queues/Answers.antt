use Rattle.std.specs.Arc.{arc_value}
use Rattle.kernel_gate.specs.Signed.{unnamed}
use Rattle.quiescent_driver.proofs.OneAnswer.{state_given}
use Rattle.quiescent_driver.proofs.maker.make_by_queues.Goals as goal

pub returns-in-Ok : goal.returns-in-Ok
returns-in-Ok g c =
    let graphs = arc_value c.args.graphs.now in
    let kernels = unnamed (g.K.Gate.kernels c.args.gate.now) in
    let valid = c.requires.valid in
    let fit = (c.runnable.ensures kernels graphs valid).fit in
    let keeps = c.sizes_kept.ensures kernels graphs valid.valid fit c.signatures-signatures.ensures.lengths in
    let gives = rw c.deref.ensures at c.in-Ok.ensures.gives in
    record {
      gives = gives;
      stops = tt;
      left = state_given graphs c.args.ins.now c.args.delays.now.lists keeps c.requires.begins.sound c.requires.begins.fits c.in-Ok.iteration c.plain_iteration.new.delays.lists gives;
    }
