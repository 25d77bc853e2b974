use Rattle.std.proofs.Common.{◌*◌, ◌≤◌}
use Rattle.std.specs.Arc.{arc_value}
use Rattle.quiescent_driver.specs.Carrying.{Suits}
use Rattle.quiescent_driver.specs.Given.{IsTopState}
use Rattle.quiescent_driver.specs.Reached.{Reached}
use Rattle.quiescent_driver.proofs.unfolded.run_groups.Given as goal

abbrev pub invariant-loop-group : goal.invariant-loop-group
invariant-loop-group g l =
    let sink = g.O.Sink in
    record {
      reached : Reached (arc_value l.graphs) l.streams.tokens.now (l.group * l.unfolded.times) l.delays.lists (sink.written l.fn.out) (sink.written l.out);
      never_falls : sink.faults l.fn.out ≤ sink.faults l.out;
      state : IsTopState (arc_value l.graphs) l.delays.lists;
      levels : Suits (arc_value l.unfolded.graphs) l.carried;
    }
