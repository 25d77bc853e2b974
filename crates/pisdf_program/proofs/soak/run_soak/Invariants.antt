use Rattle.std.specs.Arc.{arc_value}
use Rattle.quiescent_driver.specs.Carrying.{Suits}
use Rattle.quiescent_driver.specs.Given.{IsTopState}
use Rattle.pisdf_program.proofs.SoakRuns.{SoakReached}
use Rattle.pisdf_program.proofs.soak.run_soak.Given as goal

abbrev pub invariant-loop-place : goal.invariant-loop-place
invariant-loop-place g l = record {
  reached : SoakReached (arc_value l.graphs) l.number l.place l.delays.lists l.total;
  state : IsTopState (arc_value l.graphs) l.delays.lists;
  levels : Suits (arc_value l.graphs) l.carried;
}
