use Rattle.std.proofs.Common.{◌∙◌, ap}
use Rattle.std.specs.Arc.{arc_value}
use Rattle.pisdf_model.specs.Hold.{initial}
use Rattle.pisdf_model.specs.declared.graph.Graphs.{Graphs}
use Rattle.quiescent_driver.proofs.unfolded.run_in_groups.Goals as goal

pub begin_in_groups-requires-clause-begins : goal.begin_in_groups-requires-clause-begins
begin_in_groups-requires-clause-begins g c = λ lives within. c.in-Ok.ensures ∙ ap (λ (x : Graphs). initial x.graphs x.top) c.deref.ensures

pub run_singly-requires-clause-sound : goal.run_singly-requires-clause-sound
run_singly-requires-clause-sound g c = λ lives within. c.requires.stands.unfolded.exact.early

pub returns-clause-ends : goal.returns-clause-ends
returns-clause-ends g c = c.run_singly.ensures.ends (g.O.Sink.written c.args.out.now) (g.O.Sink.faults c.args.out.now) c.in-Ok-begin_in_groups.ensures.reached c.begin_in_groups.ensures.never_falls
