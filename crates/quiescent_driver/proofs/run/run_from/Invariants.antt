use Rattle.std.proofs.Common.{ℕ, ◌≤◌, List, Option}
use Rattle.std.specs.Arc.{arc_value}
use Rattle.quiescent_driver.specs.Carrying.{Suits}
use Rattle.quiescent_driver.specs.Given.{IsTopState}
use Rattle.quiescent_driver.specs.Reached.{Reached}
use Rattle.quiescent_driver.proofs.run.run_from.Given as goal

abbrev pub invariant-loop-number : goal.invariant-loop-number
invariant-loop-number g l =
    let sink = g.O.Sink in
    record {
      reached : (had : Option (List ℕ)) → Reached (arc_value l.graphs) l.streams.tokens.now l.first l.fn.delays.lists had (sink.written l.fn.out)
          → Reached (arc_value l.graphs) l.streams.tokens.now l.number l.delays.lists had (sink.written l.out);
      never_falls : sink.faults l.fn.out ≤ sink.faults l.out;
      state : IsTopState (arc_value l.graphs) l.delays.lists;
      levels : Suits (arc_value l.graphs) l.carried;
    }
