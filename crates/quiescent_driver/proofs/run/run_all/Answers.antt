use Rattle.std.specs.Arc.{arc_value}
use Rattle.quiescent_driver.proofs.Runs.{ends_like, starved_run}
use Rattle.quiescent_driver.proofs.run.run_all.Goals as goal

pub returns-in_default-clause-ends : goal.returns-in_default-clause-ends
returns-in_default-clause-ends g c =
    let faults = g.O.Sink.faults c.args.out.now in
    starved_run (arc_value c.args.graphs.now) c.args.streams.now c.args.iterations (g.O.Sink.written c.args.out.now) faults faults

pub returns-clause-only : goal.returns-clause-only
returns-clause-only g c =
    let graphs = arc_value c.args.graphs.now in
    ends_like graphs c.args.streams.now c.args.iterations (g.O.Sink.written c.args.out.now) (g.O.Sink.written c.run_by.new.out) (c.one_meaning.ensures.runs graphs)
    (g.O.Sink.faults c.args.out.now) (g.O.Sink.faults c.run_by.new.out) c.run_by.result c.run_by.ensures.ends
