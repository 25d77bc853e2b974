use Rattle.std.proofs.Common.{ap, ◌∙◌, arith}
use Rattle.std.specs.Arc.{arc_value}
use Rattle.kernel_gate.specs.Value.{lengths}
use Rattle.pisdf_model.specs.Hold.{initial}
use Rattle.pisdf_model.specs.declared.graph.Graphs.{Graphs}
use Rattle.quiescent_driver.proofs.Runs.{starts}
use Rattle.quiescent_driver.proofs.run.run_some.Goals as goal

pub run_from-requires-clause-state : goal.run_from-requires-clause-state
run_from-requires-clause-state g c = ap lengths (c.in-Ok.ensures ∙ ap (λ (x : Graphs). initial x.graphs x.top) c.deref.ensures)

pub returns-clause-ends : goal.returns-clause-ends
returns-clause-ends g c =
    let first = c.in-Ok.ensures ∙ ap (λ (x : Graphs). initial x.graphs x.top) c.deref.ensures in
    let had = g.O.Sink.written c.args.out.now in
    c.run_from.ensures.ends had (g.O.Sink.faults c.args.out.now) (starts (arc_value c.args.graphs.now) c.args.streams.now.tokens.now c.in-Ok.delays.lists had first) (omega arith)
