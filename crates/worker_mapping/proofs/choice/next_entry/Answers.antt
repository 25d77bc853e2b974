use Rattle.std.proofs.Common.{slice_index, length, arith}
use Rattle.worker_mapping.proofs.Opening.{time_small, none_left, node_below, nothing_left}
use Rattle.worker_mapping.proofs.choice.next_entry.Goals as goal

pub returns-in_default : goal.returns-in_default
returns-in_default c = none_left _ _ c.next_time.result c.args.priority.now c.args.due.now.keys c.args.later.now.keys c.move_due.new.due.keys c.move_due.new.later.keys c.next_time.ensures.time c.in_ok-move_due.ensures (nothing_left c.move_due.new.due.keys c.pop_first.result c.in_default.is c.pop_first.ensures.variant)

pub bounds-costs-node : goal.bounds-costs-node
bounds-costs-node c = node_below (length c.args.costs.now) c.next_time.result c.args.priority.now c.args.due.now.keys c.args.later.now.keys c.move_due.new.due.keys c.move_due.new.later.keys c.pop_first.new.self.keys c.in-Some.field-0-0 c.in-Some.node c.requires.costs c.requires.costs_later c.in_ok-move_due.ensures c.in-Some.ensures.removal

pub overflow_add-result : goal.overflow_add-result
overflow_add-result c =
    let free = c.requires.free c.earliest-worker.result 0 c.earliest-worker.ensures.there in
    let small = time_small c.args.now.now (slice_index c.args.free.now c.earliest-worker.result) c.args.due.now.keys c.args.later.now.keys c.requires.time free c.requires.times in
    let is = c.next_time.ensures.time in
    let cost = c.type_inv.costs c.in-Some.node in
    omega arith
