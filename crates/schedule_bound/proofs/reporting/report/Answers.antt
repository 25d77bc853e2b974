use Rattle.std.proofs.Common.{arith}
use Rattle.worker_mapping.specs.Graph.{graph_of}
use Rattle.schedule_bound.proofs.Scheduled.{entries_there, stand_once, is_feasible}
use Rattle.schedule_bound.proofs.Bounds.{path_bound, work_bound}
use Rattle.schedule_bound.proofs.Limits.{list_bound}
use Rattle.schedule_bound.proofs.reporting.report.Goals as goal

pub slots_of-requires-clause-there : goal.slots_of-requires-clause-there
slots_of-requires-clause-there c =
    let graph = graph_of c.args.nodes c.args.edges.now c.args.costs.now in
    let schedule = c.in_ok-schedule.schedule in
    rw c.items.ensures (entries_there graph c.args.workers schedule.priority schedule.entries c.in_ok-schedule.ensures.schedule)

pub slots_of-requires-clause-once : goal.slots_of-requires-clause-once
slots_of-requires-clause-once c =
    let graph = graph_of c.args.nodes c.args.edges.now c.args.costs.now in
    let schedule = c.in_ok-schedule.schedule in
    rw c.items.ensures (stand_once graph c.args.workers schedule.priority schedule.entries c.in_ok-schedule.ensures.schedule)

pub returns-clause-feasible : goal.returns-clause-feasible
returns-clause-feasible c =
    let graph = graph_of c.args.nodes c.args.edges.now c.args.costs.now in
    let schedule = c.in_ok-schedule.schedule in
    rw c.new.ensures (is_feasible graph c.args.workers schedule.priority schedule.entries c.in_ok-schedule.ensures.schedule c.in_ok-entries.entries.items (rw c.items.ensures at c.in_ok-entries.ensures) c.requires.edges)

pub returns-clause-no_shorter : goal.returns-clause-no_shorter
returns-clause-no_shorter c = λ slots feasible.
    let graph = graph_of c.args.nodes c.args.edges.now c.args.costs.now in
    let critical = c.in_ok-path.ensures in
    let bound = path_bound graph c.args.workers slots feasible c.in_ok-path.path.items critical.is_path in
    let reached = critical.reached in
    omega (arith, c.greatest_of.ensures)

pub returns-clause-no_faster : goal.returns-clause-no_faster
returns-clause-no_faster c = λ slots feasible.
    let graph = graph_of c.args.nodes c.args.edges.now c.args.costs.now in
    rw c.work_of.ensures (work_bound graph c.args.workers slots feasible c.requires.costs)

pub returns-clause-no_longer : goal.returns-clause-no_longer
returns-clause-no_longer c =
    let graph = graph_of c.args.nodes c.args.edges.now c.args.costs.now in
    let schedule = c.in_ok-schedule.schedule in
    rw (c.length_of.ensures, c.deref.ensures.value, c.work_of.ensures, c.greatest_of.ensures)
    (list_bound graph c.args.workers schedule.priority schedule.entries c.in_ok-schedule.ensures.schedule c.in_ok-entries.entries.items (rw c.items.ensures at c.in_ok-entries.ensures) c.requires.edges
    _ c.requires.workers c.requires.costs c.in_ok-path.ensures.greatest)
