use Rattle.std.proofs.Common.{◌≡◌, ◌∙◌, Option, sym, ap, subst}
use Rattle.kernel_gate.specs.declared.room.RoomSize.{RoomSize}
use Rattle.graph_firing.specs.View.{OpenView}
use Rattle.firing_board.specs.Closing.{ClosesOn}
use Rattle.firing_board.specs.FrameRooms.{FitsNeed}
use Rattle.firing_board.specs.Table.View.{room_by, room_in}
use Rattle.firing_board.specs.declared.frame_rooms.FrameRooms.{FrameRooms}
use Rattle.firing_board.specs.declared.state.Core.{Core}
use Rattle.firing_board.proofs.finishing.settle.Goals as goal

pub returns-clause-closed : goal.returns-clause-closed
returns-clause-closed c =
    let old = c.args.core.now in
    let mid : Core = record old { rooms = c.fit_rooms.new.rooms } in
    let new = c.close.new.core in
    let closes : ClosesOn mid c.args.row new = c.close.ensures.closed in
    record { end = closes.end; closes = closes.closes; end_is = closes.end_is }

pub returns-clause-kept : goal.returns-clause-kept
returns-clause-kept c =
    let kept = c.close.ensures.kept in
    record { running_is = kept.running_is; numbers_are = kept.numbers_are; journal_is = kept.journal_is; stay = kept.stay }

pub returns-clause-fits : goal.returns-clause-fits
returns-clause-fits c =
    let old = c.args.core.now in
    let h = c.job.ensures in
    let need : c.room_size-need.result ≡ room_in old.table c.args.row = c.room_size-need.ensures ∙ (ap (λ (j : OpenView). j.room) h.2 ∙ sym (ap room_by h.1)) in
    let fits = subst (λ (o : Option RoomSize). FitsNeed o old.rooms c.fit_rooms.new.rooms) need c.in_ok-fit_rooms.ensures.fits in
    subst (λ (x : FrameRooms). FitsNeed (room_in old.table c.args.row) old.rooms x) (sym c.close.ensures.rooms) fits
