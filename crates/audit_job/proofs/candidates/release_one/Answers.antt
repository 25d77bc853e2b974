use Rattle.std.proofs.Common.{◌-◌, arith}
use Rattle.std.specs.Prelude.{slice_index}
use Rattle.audit_job.proofs.AddedSoFar.{last_added, last_room, still_room, waits_still}
use Rattle.audit_job.proofs.WaitingCounts.{some_wait}
use Rattle.audit_job.proofs.candidates.release_one.Goals as goal

pub push_reserved-requires : goal.push_reserved-requires
push_reserved-requires c =
    let some = some_wait c.args.waits.now c.args.node c.requires.there c.requires.waits in
    let room = c.requires.room in
    omega (arith, c.args.candidates.now.ok.0)

pub returns-then-left-eq0-clause-added : goal.returns-then-left-eq0-clause-added
returns-then-left-eq0-clause-added c =
    last_added c.args.first c.args.node c.args.waits.now c.args.candidates.now c.requires.there c.requires.waits (slice_index c.args.waits.now c.args.node - 1) c.requires.room c.push_reserved.new.self c.push_reserved.ensures.items

pub returns-then-left-eq0-clause-room : goal.returns-then-left-eq0-clause-room
returns-then-left-eq0-clause-room c =
    last_room c.args.first c.args.node c.args.waits.now c.args.candidates.now c.requires.there c.requires.waits (slice_index c.args.waits.now c.args.node - 1) c.requires.room c.if-left-eq0.true c.push_reserved.new.self c.push_reserved.ensures.items c.push_reserved.ensures.capacity

pub returns-else-left-eq0-clause-added : goal.returns-else-left-eq0-clause-added
returns-else-left-eq0-clause-added c =
    waits_still c.args.first c.args.node c.args.waits.now c.args.candidates.now c.requires.there c.requires.waits (slice_index c.args.waits.now c.args.node - 1) c.requires.room c.if-left-eq0.false

pub returns-else-left-eq0-clause-room : goal.returns-else-left-eq0-clause-room
returns-else-left-eq0-clause-room c =
    still_room c.args.first c.args.node c.args.waits.now c.args.candidates.now c.requires.there c.requires.waits (slice_index c.args.waits.now c.args.node - 1) c.requires.room c.if-left-eq0.false
