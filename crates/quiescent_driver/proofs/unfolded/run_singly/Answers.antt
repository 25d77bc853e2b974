use Rattle.std.proofs.Common.{◌∙◌, ap, length, sym}
use Rattle.std.specs.Arc.{arc_value}
use Rattle.quiescent_driver.proofs.Runs.{starved_here}
use Rattle.quiescent_driver.proofs.unfolded.run_singly.Goals as goal

pub returns-in_default-clause-ends : goal.returns-in_default-clause-ends
returns-in_default-clause-ends g c = λ had first r le.
    let faults = g.O.Sink.faults c.args.out.now in
    starved_here (arc_value c.args.graphs.now) c.args.streams.now c.args.iterations c.args.first c.args.delays.now.lists had (g.O.Sink.written c.args.out.now) first faults c.requires.within r

pub returns-in_default-kept-clause-ends : goal.returns-in_default-kept-clause-ends
returns-in_default-kept-clause-ends g c = λ had first r le.
    let faults = g.O.Sink.faults c.args.out.now in
    starved_here (arc_value c.args.graphs.now) c.args.streams.now c.args.iterations c.args.first c.args.delays.now.lists had (g.O.Sink.written c.args.out.now) first faults c.requires.within r

pub run_from-requires-clause-fit : goal.run_from-requires-clause-fit
run_from-requires-clause-fit g c = ap length c.items.ensures ∙ (rw c.deref.ensures at c.in-Ok.ensures.fit) ∙ sym c.requires.fit
