use Rattle.std.proofs.Common.{length, ap, arith}
use Rattle.worker_mapping.specs.Growing.{nodes_of, graph_in}
use Rattle.worker_mapping.proofs.Stepping.{due_below, later_below, times_small}
use Rattle.worker_mapping.proofs.Placing.{free_small}
use Rattle.worker_mapping.proofs.growing.Growing.take.Goals as goal

pub next_entry-requires-clause-few_workers : goal.next_entry-requires-clause-few_workers
next_entry-requires-clause-few_workers c =
    let same = ap length c.deref.ensures.value in
    let long = c.requires.grows.so_far.follows.free_long in
    let few = c.requires.work.few_workers in
    omega arith

pub next_entry-requires-clause-costs : goal.next_entry-requires-clause-costs
next_entry-requires-clause-costs c =
    rw c.requires.work.costs (due_below (graph_in c.args.work.now) c.args.work.now.workers c.args.work.now.priority.now c.args.self.now.entries.items c.args.self.now.waiting.items c.args.self.now.ready.items c.args.self.now.free.items c.args.self.now.now c.args.self.now.due.keys c.args.self.now.later.keys c.requires.grows.so_far)

pub next_entry-requires-clause-costs_later : goal.next_entry-requires-clause-costs_later
next_entry-requires-clause-costs_later c =
    rw c.requires.work.costs (later_below (graph_in c.args.work.now) c.args.work.now.workers c.args.work.now.priority.now c.args.self.now.entries.items c.args.self.now.waiting.items c.args.self.now.ready.items c.args.self.now.free.items c.args.self.now.now c.args.self.now.due.keys c.args.self.now.later.keys c.requires.grows.so_far)

pub next_entry-requires-clause-time : goal.next_entry-requires-clause-time
next_entry-requires-clause-time c =
    let left = c.requires.grows.so_far.follows.left in
    let slow = c.requires.grows.so_far.slow in
    let few = c.requires.work.few in
    omega arith

pub next_entry-requires-clause-free : goal.next_entry-requires-clause-free
next_entry-requires-clause-free c =
    rw c.deref.ensures.value (free_small (graph_in c.args.work.now) c.args.work.now.workers c.args.self.now.entries.items c.args.self.now.waiting.items c.args.self.now.ready.items (nodes_of c.args.self.now.due.keys c.args.self.now.later.keys) c.args.self.now.free.items c.requires.grows.so_far.follows c.requires.work.few)

pub next_entry-requires-clause-times : goal.next_entry-requires-clause-times
next_entry-requires-clause-times c =
    times_small (graph_in c.args.work.now) c.args.work.now.workers c.args.work.now.priority.now c.args.self.now.entries.items c.args.self.now.waiting.items c.args.self.now.ready.items c.args.self.now.free.items c.args.self.now.now c.args.self.now.due.keys c.args.self.now.later.keys c.requires.grows.so_far c.requires.work.few
