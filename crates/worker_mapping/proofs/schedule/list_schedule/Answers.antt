use Rattle.worker_mapping.specs.Graph.{graph_of}
use Rattle.worker_mapping.proofs.Stepping.{finished}
use Rattle.worker_mapping.proofs.schedule.list_schedule.Goals as goal

pub returns : goal.returns
returns c =
    let none = rw c.in_default.is at c.in_ok-entry.ensures.taken in
    rw (c.end.ensures, c.take.ensures.kept) (finished (graph_of c.args.nodes c.args.edges.now c.args.costs.now) c.args.workers c.args.priority.now c.requires.acyclic.0 c.loop-growing.growing.entries.items c.loop-growing.growing.waiting.items c.loop-growing.growing.ready.items c.loop-growing.growing.free.items c.loop-growing.growing.now c.loop-growing.growing.due.keys c.loop-growing.growing.later.keys c.requires.edges c.requires.acyclic.1 none.0 none.1 c.loop-growing.invariant.so_far)
