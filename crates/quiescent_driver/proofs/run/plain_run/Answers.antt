use Rattle.std.specs.Arc.{arc_value}
use Rattle.quiescent_driver.proofs.Runs.{ends_like}
use Rattle.quiescent_driver.proofs.run.plain_run.Goals as goal

pub returns-clause-only : goal.returns-clause-only
returns-clause-only g c =
    let graphs = arc_value c.args.graphs.now in
    ends_like graphs c.args.streams.now c.args.iterations (g.O.Sink.written c.args.out.now) (g.O.Sink.written c.run_by.new.out) (c.one_meaning.ensures.runs graphs)
    (g.O.Sink.faults c.args.out.now) (g.O.Sink.faults c.run_by.new.out) c.run_by.result c.run_by.ensures.ends
