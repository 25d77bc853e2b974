use Rattle.std.proofs.Common.{◌≡◌, ◌∙◌, List, length, length-set, Option, refl, ap, subst, arith}
use Rattle.kernel_gate.specs.declared.room.RoomSize.{RoomSize}
use Rattle.job_preparing.specs.Handing.{lent_at}
use Rattle.nested_jobs.specs.Marks.{Busy}
use Rattle.one_job.specs.Leased.{OneOwnerEach}
use Rattle.graph_firing.specs.Calls.{IsHanded, frame_of}
use Rattle.graph_firing.specs.Leases.{LendsItems}
use Rattle.graph_firing.specs.Rooms.{TakesRoom, is_node}
use Rattle.graph_firing.specs.View.{OpenView}
use Rattle.firing_board.specs.FrameRooms.{slot_at}
use Rattle.firing_board.specs.Table.View.{row_at}
use Rattle.firing_board.specs.declared.table.row.Row.{Row}
use Rattle.firing_board.specs.declared.frame_rooms.FrameRooms.{FrameRooms}
use Rattle.firing_board.specs.declared.state.Core.{Core}
use Rattle.firing_board.proofs.FrameSteps.{claims_room, rooms_claimed}
use Rattle.firing_board.proofs.RoomSteps.{entered_room}
use Rattle.firing_board.proofs.Rows.{last_go_on, marks_rows, the_same}
use Rattle.firing_board.proofs.claiming.hand_frame.Goals as goal

pub claim_item-handed-requires-clause-slot : goal.claim_item-handed-requires-clause-slot
claim_item-handed-requires-clause-slot c =
    let l = c.requires.enter.is_worker in
    let m = c.requires.room.for_frames.one_each in
    omega (arith, l, m)

pub claim_item-handed-requires-clause-room : goal.claim_item-handed-requires-clause-room
claim_item-handed-requires-clause-room c =
    let old = c.args.core.now in
    let o = c.requires.offered in
    (o.0, o.1, claims_room old c.args.worker c.args.run o.0 c.requires.room.for_frames c.requires.enter.is_worker c.requires.enter.idle o.1 (slot_at old.rooms.slots.items c.args.worker) refl)

pub enter-ticket-requires-clause-room : goal.enter-ticket-requires-clause-room
enter-ticket-requires-clause-room c = let has = c.requires.room.in_journal in let fewer = c.claim_item-handed.ensures.fewer in omega (arith, has, fewer)

pub returns-clause-room : goal.returns-clause-room
returns-clause-room c =
    let old = c.args.core.now in
    let w = c.args.worker in
    let run = c.args.run in
    let o = c.requires.offered in
    let t = c.claim_item-handed.ensures.room in
    let mid : Core = record old { table = c.claim_item-handed.new.table; rooms = c.claim_item-handed.new.rooms } in
    let takes = subst (λ (r : Row). TakesRoom (is_node r.job run.item) (slot_at old.rooms.slots.items w) (frame_of c.claim_item-handed.result).places t.2.slot) (the_same (row_at old.table run.row) t.0 o.0 t.1 o.1) t.2.takes in
    record {
      in_journal = entered_room old mid c.enter-ticket.new.core w run c.args.item c.enter-ticket.result c.requires.room.in_journal refl refl c.claim_item-handed.ensures.fewer c.enter-ticket.ensures;
      for_frames = rooms_claimed old mid c.enter-ticket.new.core w run c.args.item c.enter-ticket.result (frame_of c.claim_item-handed.result).places o.0 t.2.slot c.requires.room.for_frames c.requires.enter.is_worker c.requires.enter.idle o.1 refl
          (last_go_on old.table mid.table (marks_rows run.row run.item Busy old.table mid.table c.claim_item-handed.ensures.claimed)) c.claim_item-handed.ensures.lent c.claim_item-handed.ensures.asked t.2.size_is t.2.slots_are takes c.enter-ticket.ensures;
    }

pub returns-clause-handed : goal.returns-clause-handed
returns-clause-handed c =
    let old = c.args.core.now in
    let w = c.args.worker in
    let o = c.requires.offered in
    let h = c.claim_item-handed.ensures.handed in
    record {
      row = o.0;
      here = o.1;
      handed = c.claim_item-handed.result;
      handed_so = subst (λ (r : Row). IsHanded r.job c.args.run.item c.claim_item-handed.result) (the_same (row_at old.table c.args.run.row) h.0 o.0 h.1 o.1) h.2;
      framed = o.2.1;
      claimed = record old { table = c.claim_item-handed.new.table; rooms = c.claim_item-handed.new.rooms };
      marks = c.claim_item-handed.ensures.claimed;
      lends = c.claim_item-handed.ensures.lent;
      leases =
          let row : c.job.ensures.0 ≡ c.claim_item-handed.ensures.claimed.after = the_same (row_at c.claim_item-handed.new.table c.args.run.row) c.job.ensures.0 c.claim_item-handed.ensures.claimed.after c.job.ensures.1 c.claim_item-handed.ensures.claimed.now in
          subst (λ (r : Row). LendsItems r.job) row (subst LendsItems c.job.ensures.2 c.compiled.ensures.lends);
      owners =
          let row : c.job.ensures.0 ≡ c.claim_item-handed.ensures.claimed.after = the_same (row_at c.claim_item-handed.new.table c.args.run.row) c.job.ensures.0 c.claim_item-handed.ensures.claimed.after c.job.ensures.1 c.claim_item-handed.ensures.claimed.now in
          let P : OpenView → Type 0 = λ job. OneOwnerEach (lent_at job.lent) in
          subst (λ (r : Row). P r.job) row (subst P c.job.ensures.2 c.compiled.ensures.owners);
      running_is = refl;
      numbers_are = refl;
      journal_is = refl;
      end_is = refl;
      ticket = c.enter-ticket.result;
      enters = c.enter-ticket.ensures;
      result_is = c.with_ticket.ensures;
    }

pub returns-clause-slots : goal.returns-clause-slots
returns-clause-slots c =
    let old = c.args.core.now in
    let t = c.claim_item-handed.ensures.room.2 in
    ap (λ (r : FrameRooms). length r.slots.items) c.enter-ticket.ensures.rooms_are ∙ (ap (λ (l : List (Option RoomSize)). length l) t.slots_are ∙ length-set old.rooms.slots.items c.args.worker t.slot)
