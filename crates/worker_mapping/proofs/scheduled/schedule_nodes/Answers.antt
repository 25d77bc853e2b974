use Rattle.worker_mapping.specs.Graph.{graph_of}
use Rattle.worker_mapping.proofs.HeaviestPath.{IsPriority-heaviest}
use Rattle.worker_mapping.proofs.scheduled.schedule_nodes.Goals as goal

pub returns-clause-heaviest : goal.returns-clause-heaviest
returns-clause-heaviest c =
    rw c.new.ensures (IsPriority-heaviest (graph_of c.args.nodes c.args.edges.now c.args.costs.now) c.args.ranks.now c.in_ok-priority.priority.items c.requires.edges c.requires.rising c.in_ok-priority.ensures)
