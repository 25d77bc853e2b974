use Rattle.worker_mapping.specs.Graph.{graph_of, greatest}
use Rattle.schedule_bound.proofs.Walked.{IsOnTheWay, way_left}
use Rattle.schedule_bound.proofs.critical.critical_path.Given as goal

abbrev pub invariant-loop-left : goal.invariant-loop-left
invariant-loop-left l = IsOnTheWay (graph_of l.nodes l.edges l.costs) l.priority (greatest l.priority) l.path.items l.left l.at

abbrev pub decreases-loop-left : goal.decreases-loop-left
decreases-loop-left l = way_left l._ranks l.at
