use Rattle.std.proofs.Common.{◌≡◌, ◌<◌, ◌∙◌, length, set, Option, None, refl, sym, ap, subst, arith}
use Rattle.job_preparing.specs.Handing.{answer_with}
use Rattle.kernel_gate.specs.declared.room.RoomSize.{RoomSize}
use Rattle.nested_jobs.specs.Marks.{Done}
use Rattle.graph_firing.specs.Rooms.{is_node, slot_after}
use Rattle.graph_firing.specs.View.{task}
use Rattle.firing_board.specs.FrameRooms.{slot_at}
use Rattle.firing_board.specs.Table.Calls.{AsksAsBefore, LendsItem, MarksItem}
use Rattle.firing_board.specs.Table.View.{TableView, free_items, row_at}
use Rattle.firing_board.specs.declared.frame_rooms.FrameRooms.{FrameRooms}
use Rattle.firing_board.specs.declared.table.row.Row.{Row}
use Rattle.firing_board.proofs.FrameSteps.{read_slot}
use Rattle.firing_board.proofs.RoomSteps.{left_runners}
use Rattle.firing_board.proofs.Rows.{the_same}
use Rattle.firing_board.proofs.finishing.take_back.Goals as goal

pub returns-clause-room : goal.returns-clause-room
returns-clause-room c = λ has.
    let less = left_runners c.args.core.now c.leave-run.new.core c.args.worker c.leave-run.result c.leave-run.ensures.0 in
    let room = c.leave-run.ensures.0.journal_is.room in
    let same = ap free_items c.leave-run.ensures.1 in
    let free = c.finish.ensures.free in
    omega (arith, has, less, room, same, free)

pub index_mut-slot-requires : goal.index_mut-slot-requires
index_mut-slot-requires c =
    let l = c.requires.slot in
    let m = ap (λ (x : FrameRooms). length x.slots.items) c.leave-run.ensures.2 in
    let o = c.leave-run.new.core.rooms.slots.ok.0 in
    omega (arith, l, m, o)

pub returns-clause-returns : goal.returns-clause-returns
returns-clause-returns c =
    let old = c.args.core.now in
    let mid = c.leave-run.new.core in
    let w = c.args.worker in
    let run = c.leave-run.result in
    let new = c.finish.new.self in
    let same : mid.table ≡ old.table = c.leave-run.ensures.1 in
    let rooms : mid.rooms ≡ old.rooms = c.leave-run.ensures.2 in
    let l = c.leave-run.ensures.0 in
    let f = c.finish.ensures.finished in
    let r = c.finish.ensures.room in
    let rows : r.0 ≡ f.0 = the_same (row_at mid.table run.row) r.0 f.0 r.1 f.1 in
    let inside : w < length mid.rooms.slots.items = (let a = c.requires.slot in let b = ap (λ (x : FrameRooms). length x.slots.items) rooms in omega (arith, a, b)) in
    let at : c.index_mut-slot.result.now ≡ slot_at mid.rooms.slots.items w = read_slot mid.rooms.slots.items w c.index_mut-slot.result.now inside c.index_mut-slot.ensures.value in
    let places = c.args.frame.places in
    record {
      run = run;
      row_is = refl;
      leaves = record { ran = l.ran; running_are = l.running_are; numbers_are = l.numbers_are; journal_is = l.journal_is; end_is = l.end_is };
      row = f.0;
      here = ap (λ (v : TableView). row_at v run.row) (sym same) ∙ f.1;
      marks = subst (λ (v : TableView). MarksItem run.row run.item (Done (answer_with (task f.0.job run.item) c.args.frame c.args.answer)) v new) same f.2;
      lends = subst (λ (v : TableView). LendsItem run.row run.item None v new) same c.finish.ensures.lent;
      asked = subst (λ (v : TableView). AsksAsBefore v new) same c.finish.ensures.asked;
      size_is = ap (λ (x : FrameRooms). x.size) rooms;
      slots_are =
          ap (λ (s : Option RoomSize). set mid.rooms.slots.items w s)
          (r.2 ∙ (ap (λ (x : Row). slot_after (is_node x.job run.item) c.index_mut-slot.result.now places) rows ∙ ap (λ (s : Option RoomSize). slot_after (is_node f.0.job run.item) s places) at))
          ∙ ap (λ (x : FrameRooms). set x.slots.items w (slot_after (is_node f.0.job run.item) (slot_at x.slots.items w) places)) rooms;
    }
