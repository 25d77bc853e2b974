use Rattle.std.proofs.Common.{◌≡◌, IsOk, None, Some, refl, sym, ap, arith, subst}
use Rattle.job_preparing.specs.Handing.{answer_with, lent_at, mark_at}
use Rattle.nested_jobs.specs.Marks.{Busy, Done}
use Rattle.graph_firing.specs.Calls.{IsSoundFor, with_item}
use Rattle.graph_firing.specs.Rooms.{is_node, slot_after}
use Rattle.graph_firing.specs.View.{OpenView, free_one, task}
use Rattle.firing_board.specs.Table.Slots.{InSlot, change_row}
use Rattle.firing_board.proofs.OfTable.LentJobs.{job_had, job_has, job_written}
use Rattle.firing_board.proofs.OfTable.Methods.{busy_inside, changed, in_row, item_freed, item_lent, item_marked, lent_is, lent_there, room_still, slot_has, slot_is}
use Rattle.firing_board.proofs.table.JobTable.finish.Goals as goal

pub returns-clause-finished : goal.returns-clause-finished
returns-clause-finished c =
    let slot = c.index_mut.result.now in
    let read = c.index_mut.ensures.value in
    let row = c.requires.busy.0 in
    let here = c.requires.busy.1 in
    let written = changed _ c.args.self.now c.self.view_is c.args.row slot read row here (λ (job : OpenView). with_item job c.args.item (Done (answer_with (task job c.args.item) c.args.frame c.args.answer)) None) (change_row (λ (_ : OpenView). c.finish.new.self) slot) (job_written slot c.job_in.result.now c.finish.new.self (λ (job : OpenView). with_item job c.args.item (Done (answer_with (task job c.args.item) c.args.frame c.args.answer)) None) c.job_in.ensures.value c.finish.ensures.finished) in (
      row,
      here,
      item_marked _ c.args.self.now c.self.view_is c.args.row slot read row here c.args.item (Done (answer_with (task row.job c.args.item) c.args.frame c.args.answer)) None (change_row (λ (_ : OpenView). c.finish.new.self) slot) written
          (busy_inside _ c.args.self.now c.self.view_is c.args.row slot read row here c.args.item c.requires.busy.2),
    )

pub returns-clause-lent : goal.returns-clause-lent
returns-clause-lent c =
    let slot = c.index_mut.result.now in
    let read = c.index_mut.ensures.value in
    let row = c.requires.busy.0 in
    let here = c.requires.busy.1 in
    let written = changed _ c.args.self.now c.self.view_is c.args.row slot read row here (λ (job : OpenView). with_item job c.args.item (Done (answer_with (task job c.args.item) c.args.frame c.args.answer)) None) (change_row (λ (_ : OpenView). c.finish.new.self) slot) (job_written slot c.job_in.result.now c.finish.new.self (λ (job : OpenView). with_item job c.args.item (Done (answer_with (task job c.args.item) c.args.frame c.args.answer)) None) c.job_in.ensures.value c.finish.ensures.finished) in
    item_lent _ c.args.self.now c.self.view_is c.args.row slot read row here c.args.item (Done (answer_with (task row.job c.args.item) c.args.frame c.args.answer)) None (change_row (λ (_ : OpenView). c.finish.new.self) slot) written
    (lent_there _ c.args.self.now c.self.view_is c.args.row slot read row here c.args.item c.args.frame.places c.requires.lent)

pub returns-clause-free : goal.returns-clause-free
returns-clause-free c =
    let slot = c.index_mut.result.now in
    let read = c.index_mut.ensures.value in
    let row = c.requires.busy.0 in
    let here = c.requires.busy.1 in
    let answer = Done (answer_with (task row.job c.args.item) c.args.frame c.args.answer) in
    let written = changed _ c.args.self.now c.self.view_is c.args.row slot read row here (λ (job : OpenView). with_item job c.args.item (Done (answer_with (task job c.args.item) c.args.frame c.args.answer)) None) (change_row (λ (_ : OpenView). c.finish.new.self) slot) (job_written slot c.job_in.result.now c.finish.new.self (λ (job : OpenView). with_item job c.args.item (Done (answer_with (task job c.args.item) c.args.frame c.args.answer)) None) c.job_in.ensures.value c.finish.ensures.finished) in
    let all = item_freed _ c.args.self.now c.self.view_is c.args.row slot read row here c.args.item answer (with_item row.job c.args.item answer None) (change_row (λ (_ : OpenView). c.finish.new.self) slot) written refl
    (busy_inside _ c.args.self.now c.self.view_is c.args.row slot read row here c.args.item c.requires.busy.2) in
    let none : free_one (mark_at row.job.marks c.args.item) ≡ 0 = ap free_one c.requires.busy.2 in
    omega (arith, all, none)

pub finish-requires-clause-busy : goal.finish-requires-clause-busy
finish-requires-clause-busy c =
    let slot = c.index_mut.result.now in
    let P : OpenView → Type 0 = λ job. mark_at job.marks c.args.item ≡ Busy in
    job_has slot c.job_in.result.now P c.job_in.ensures.value (slot_has _ c.args.self.now c.self.view_is c.args.row slot c.index_mut.ensures.value P (c.requires.busy))

pub finish-requires-clause-lent : goal.finish-requires-clause-lent
finish-requires-clause-lent c =
    let slot = c.index_mut.result.now in
    let read = c.index_mut.ensures.value in
    let row = c.requires.busy.0 in
    let here = c.requires.busy.1 in
    let P : OpenView → Type 0 = λ job. lent_at job.lent c.args.item ≡ Some c.args.frame.places in
    job_has slot c.job_in.result.now P c.job_in.ensures.value
    (subst (InSlot P) (sym (slot_is _ c.args.self.now c.self.view_is c.args.row slot read row here)) (lent_is _ c.args.self.now c.self.view_is c.args.row slot read row here c.args.item c.args.frame.places c.requires.lent))

pub finish-requires-clause-sound : goal.finish-requires-clause-sound
finish-requires-clause-sound c =
    let slot = c.index_mut.result.now in
    let P : OpenView → Type 0 = λ job. IsSoundFor (task job c.args.item) (IsOk c.args.answer) in
    job_has slot c.job_in.result.now P c.job_in.ensures.value (slot_has _ c.args.self.now c.self.view_is c.args.row slot c.index_mut.ensures.value P (c.requires.sound))

pub returns-clause-asked : goal.returns-clause-asked
returns-clause-asked c =
    let slot = c.index_mut.result.now in
    let read = c.index_mut.ensures.value in
    let row = c.requires.busy.0 in
    let here = c.requires.busy.1 in
    let answer = Done (answer_with (task row.job c.args.item) c.args.frame c.args.answer) in
    let written = changed _ c.args.self.now c.self.view_is c.args.row slot read row here (λ (job : OpenView). with_item job c.args.item (Done (answer_with (task job c.args.item) c.args.frame c.args.answer)) None) (change_row (λ (_ : OpenView). c.finish.new.self) slot) (job_written slot c.job_in.result.now c.finish.new.self (λ (job : OpenView). with_item job c.args.item (Done (answer_with (task job c.args.item) c.args.frame c.args.answer)) None) c.job_in.ensures.value c.finish.ensures.finished) in
    room_still _ c.args.self.now c.self.view_is c.args.row slot read row here (with_item row.job c.args.item answer None) (change_row (λ (_ : OpenView). c.finish.new.self) slot) written refl

pub returns-clause-room : goal.returns-clause-room
returns-clause-room c =
    let slot = c.index_mut.result.now in
    let read = c.index_mut.ensures.value in
    let row = c.requires.busy.0 in
    let here = c.requires.busy.1 in
    let P : OpenView → Type 0 = λ job. c.finish.new.slot ≡ slot_after (is_node job c.args.item) c.args.slot.now c.args.frame.places in
    (row, here, in_row _ c.args.self.now c.self.view_is c.args.row slot read row here P (job_had slot c.job_in.result.now P c.job_in.ensures.value c.finish.ensures.room))
