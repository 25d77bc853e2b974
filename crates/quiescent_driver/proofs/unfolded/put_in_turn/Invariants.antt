use Rattle.std.proofs.Common.{ℕ, ℤ, ◌≤◌, List, Option}
use Rattle.std.specs.Arc.{arc_value}
use Rattle.quiescent_driver.specs.Reached.{Iterate, Reached}
use Rattle.quiescent_driver.proofs.Groups.{InTurn}
use Rattle.quiescent_driver.proofs.unfolded.put_in_turn.Given as goal

abbrev pub invariant-loop-place : goal.invariant-loop-place
invariant-loop-place g l =
    let sink = g.O.Sink in
    record {
      turns : (streams state left : List (List ℤ)) (had : Option (List ℕ)) → Iterate (arc_value l.graphs) streams l.number state l.iterations left → Reached (arc_value l.graphs) streams l.number state had (sink.written l.fn.out)
          → InTurn (arc_value l.graphs) streams l.number l.place l.iterations left had (sink.written l.out);
      never_falls : sink.faults l.fn.out ≤ sink.faults l.out;
    }
