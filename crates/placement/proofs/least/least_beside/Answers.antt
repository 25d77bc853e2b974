use Rattle.std.proofs.Common.{arith}
use Rattle.placement.specs.Placing.{in_order, all_in}
use Rattle.placement.proofs.Beginning.{still_blocked, blocked_to_end}
use Rattle.placement.proofs.Shut.{last_room}
use Rattle.placement.proofs.least.least_beside.Goals as goal
use Rattle.placement.proofs.least.least_beside.Goals.{then-has_bit, else-has_bit}

pub opened-least-requires-clause-room : goal.opened-least-requires-clause-room
opened-least-requires-clause-room c =
    let end_room = last_room (in_order c.args.placed.now.small) (in_order c.args.placed.now.large) c.args.sought.now.size c.args.last.now c.requires.small.room c.requires.large.room c.requires.last.there in
    let alike = c.requires.alike in
    omega arith

pub returns-then-least-last : goal.returns-then-least-last
returns-then-least-last c =
    let end_room = last_room (in_order c.args.placed.now.small) (in_order c.args.placed.now.large) c.args.sought.now.size c.args.last.now c.requires.small.room c.requires.large.room c.requires.last.there in
    let alike = c.requires.alike in
    record {
      free = c.opened-least.ensures.free c.if-least-last.true;
      least = still_blocked c.args.sought.now.row.now c.args.last_row.now c.args.sought.now.size (all_in c.args.placed.now) c.args.spots.now.offsets.now c.args.spots.now.sizes.now c.args.last.now c.requires.last (omega arith) c.requires.standing c.opened-least.result c.opened-least.ensures.least c.opened-least.ensures.shut;
      room = let below = c.if-least-last.true in omega arith;
    }

pub first_fit-requires-clause-room : goal.first_fit-requires-clause-room
first_fit-requires-clause-room c =
    let end_room = last_room (in_order c.args.placed.now.small) (in_order c.args.placed.now.large) c.args.sought.now.size c.args.last.now c.requires.small.room c.requires.large.room c.requires.last.there in
    let filled = c.requires.last.filled in
    elim c.if-has_bit.branch [ then-has_bit w ↦ let is = w.start-is in omega arith | else-has_bit w ↦ let is = w.start-is in omega arith ]

pub first_fit-requires-clause-blocked : goal.first_fit-requires-clause-blocked
first_fit-requires-clause-blocked c =
    let alike = c.requires.alike in
    let past = c.if-least-last.false in
    elim c.if-has_bit.branch [
      | then-has_bit w ↦ λ lower below.
          let is = w.start-is in
          blocked_to_end c.args.sought.now.row.now c.args.last_row.now c.args.sought.now.size (all_in c.args.placed.now) c.args.spots.now.offsets.now c.args.spots.now.sizes.now c.args.last.now c.requires.last (omega arith) c.requires.standing c.opened-least.result c.opened-least.ensures.least c.opened-least.ensures.shut (omega arith) (c.has_bit.ensures.0 w.if-has_bit.true) lower (omega arith)
      | else-has_bit w ↦ λ lower below.
          let is = w.start-is in
          still_blocked c.args.sought.now.row.now c.args.last_row.now c.args.sought.now.size (all_in c.args.placed.now) c.args.spots.now.offsets.now c.args.spots.now.sizes.now c.args.last.now c.requires.last (omega arith) c.requires.standing c.opened-least.result c.opened-least.ensures.least c.opened-least.ensures.shut lower (omega arith)
    ]
