use Rattle.std.specs.Arc.{arc_value}
use Rattle.quiescent_driver.proofs.Groups.{unfolded_stands}
use Rattle.quiescent_driver.proofs.Runs.{ends_like, starved_run}
use Rattle.quiescent_driver.proofs.unfolded.run_unfolded.Goals as goal

pub returns-in-Ok-clause-only : goal.returns-in-Ok-clause-only
returns-in-Ok-clause-only g c =
    let graphs = arc_value c.args.graphs.now in
    ends_like graphs c.args.streams.now c.args.iterations (g.O.Sink.written c.args.out.now) (g.O.Sink.written c.run_in_groups.new.out) (c.one_meaning.ensures.runs graphs)
    (g.O.Sink.faults c.args.out.now) (g.O.Sink.faults c.run_in_groups.new.out) c.run_in_groups.result c.run_in_groups.ensures.ends

pub run_in_groups-requires-clause-stands : goal.run_in_groups-requires-clause-stands
run_in_groups-requires-clause-stands g c = λ lives within.
    unfolded_stands (arc_value c.args.graphs.now) c.args.times c.in-Ok.unfolded (rw c.deref.ensures at c.in-Ok.ensures.unfolded) (rw c.deref.ensures at c.in-Ok.ensures.fits) (rw c.deref.ensures at c.in-Ok.ensures.unfolds)
