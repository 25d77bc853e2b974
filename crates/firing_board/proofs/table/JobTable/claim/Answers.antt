use Rattle.std.proofs.Common.{◌≡◌, ◌≢◌, Some, refl, ap, arith}
use Rattle.job_preparing.specs.Handing.{mark_at}
use Rattle.nested_jobs.specs.Marks.{Busy}
use Rattle.graph_firing.specs.Calls.{IsHanded, frame_of, with_item}
use Rattle.graph_firing.specs.Rooms.{HasRoomFor, TakesRoom, is_node}
use Rattle.graph_firing.specs.View.{HasItem, IsOfferedWork, OpenView, compilation_of, free_one}
use Rattle.firing_board.specs.Table.Slots.{change_row}
use Rattle.firing_board.proofs.OfTable.LentJobs.{job_had, job_has, job_written}
use Rattle.firing_board.proofs.OfTable.Methods.{changed, in_row, item_freed, item_lent, item_marked, room_still, slot_has}
use Rattle.firing_board.proofs.table.JobTable.claim.Goals as goal

pub returns-clause-claimed : goal.returns-clause-claimed
returns-clause-claimed c =
    let slot = c.index_mut.result.now in
    let read = c.index_mut.ensures.value in
    let row = c.requires.offered.0 in
    let lent = Some (frame_of c.claim.result).places in
    let written = changed _ c.args.self.now c.self.view_is c.args.row slot read row c.requires.offered.1 (λ (job : OpenView). with_item job c.args.item Busy lent) (change_row (λ (_ : OpenView). c.claim.new.self) slot) (job_written slot c.job_in.result.now c.claim.new.self (λ (job : OpenView). with_item job c.args.item Busy lent) c.job_in.ensures.value c.claim.ensures.claimed) in
    item_marked _ c.args.self.now c.self.view_is c.args.row slot read row c.requires.offered.1 c.args.item Busy lent (change_row (λ (_ : OpenView). c.claim.new.self) slot) written
    (in_row _ c.args.self.now c.self.view_is c.args.row slot read row c.requires.offered.1 (λ (job : OpenView). HasItem job c.args.item) (job_had slot c.job_in.result.now (λ (job : OpenView). HasItem job c.args.item) c.job_in.ensures.value c.claim.ensures.there)).marked

pub returns-clause-lent : goal.returns-clause-lent
returns-clause-lent c =
    let slot = c.index_mut.result.now in
    let read = c.index_mut.ensures.value in
    let row = c.requires.offered.0 in
    let lent = Some (frame_of c.claim.result).places in
    let written = changed _ c.args.self.now c.self.view_is c.args.row slot read row c.requires.offered.1 (λ (job : OpenView). with_item job c.args.item Busy lent) (change_row (λ (_ : OpenView). c.claim.new.self) slot) (job_written slot c.job_in.result.now c.claim.new.self (λ (job : OpenView). with_item job c.args.item Busy lent) c.job_in.ensures.value c.claim.ensures.claimed) in
    item_lent _ c.args.self.now c.self.view_is c.args.row slot read row c.requires.offered.1 c.args.item Busy lent (change_row (λ (_ : OpenView). c.claim.new.self) slot) written
    (in_row _ c.args.self.now c.self.view_is c.args.row slot read row c.requires.offered.1 (λ (job : OpenView). HasItem job c.args.item) (job_had slot c.job_in.result.now (λ (job : OpenView). HasItem job c.args.item) c.job_in.ensures.value c.claim.ensures.there)).lendable

pub returns-clause-fewer : goal.returns-clause-fewer
returns-clause-fewer c =
    let slot = c.index_mut.result.now in
    let read = c.index_mut.ensures.value in
    let row = c.requires.offered.0 in
    let lent = Some (frame_of c.claim.result).places in
    let written = changed _ c.args.self.now c.self.view_is c.args.row slot read row c.requires.offered.1 (λ (job : OpenView). with_item job c.args.item Busy lent) (change_row (λ (_ : OpenView). c.claim.new.self) slot) (job_written slot c.job_in.result.now c.claim.new.self (λ (job : OpenView). with_item job c.args.item Busy lent) c.job_in.ensures.value c.claim.ensures.claimed) in
    let all = item_freed _ c.args.self.now c.self.view_is c.args.row slot read row c.requires.offered.1 c.args.item Busy (with_item row.job c.args.item Busy lent) (change_row (λ (_ : OpenView). c.claim.new.self) slot) written refl
    (in_row _ c.args.self.now c.self.view_is c.args.row slot read row c.requires.offered.1 (λ (job : OpenView). HasItem job c.args.item) (job_had slot c.job_in.result.now (λ (job : OpenView). HasItem job c.args.item) c.job_in.ensures.value c.claim.ensures.there)).marked in
    let one : free_one (mark_at row.job.marks c.args.item) ≡ 1 = ap free_one c.requires.offered.2.0.free in
    omega (arith, all, one)

pub claim-requires-clause-offered : goal.claim-requires-clause-offered
claim-requires-clause-offered c =
    let slot = c.index_mut.result.now in
    let P : OpenView → Type 0 = λ job. IsOfferedWork job c.args.item in
    job_has slot c.job_in.result.now P c.job_in.ensures.value (slot_has _ c.args.self.now c.self.view_is c.args.row slot c.index_mut.ensures.value P (c.requires.offered.0, c.requires.offered.1, c.requires.offered.2.0))

pub claim-requires-clause-framed : goal.claim-requires-clause-framed
claim-requires-clause-framed c =
    let slot = c.index_mut.result.now in
    let P : OpenView → Type 0 = λ job. c.args.item ≢ compilation_of job in
    job_has slot c.job_in.result.now P c.job_in.ensures.value (slot_has _ c.args.self.now c.self.view_is c.args.row slot c.index_mut.ensures.value P (c.requires.offered.0, c.requires.offered.1, c.requires.offered.2.1))

pub returns-clause-handed : goal.returns-clause-handed
returns-clause-handed c =
    let slot = c.index_mut.result.now in
    let P : OpenView → Type 0 = λ job. IsHanded job c.args.item c.claim.result in (
      c.requires.offered.0,
      c.requires.offered.1,
      in_row _ c.args.self.now c.self.view_is c.args.row slot c.index_mut.ensures.value c.requires.offered.0 c.requires.offered.1 P (job_had slot c.job_in.result.now P c.job_in.ensures.value c.claim.ensures.handed),
    )

pub returns-clause-asked : goal.returns-clause-asked
returns-clause-asked c =
    let slot = c.index_mut.result.now in
    let read = c.index_mut.ensures.value in
    let row = c.requires.offered.0 in
    let lent = Some (frame_of c.claim.result).places in
    let written = changed _ c.args.self.now c.self.view_is c.args.row slot read row c.requires.offered.1 (λ (job : OpenView). with_item job c.args.item Busy lent) (change_row (λ (_ : OpenView). c.claim.new.self) slot) (job_written slot c.job_in.result.now c.claim.new.self (λ (job : OpenView). with_item job c.args.item Busy lent) c.job_in.ensures.value c.claim.ensures.claimed) in
    room_still _ c.args.self.now c.self.view_is c.args.row slot read row c.requires.offered.1 (with_item row.job c.args.item Busy lent) (change_row (λ (_ : OpenView). c.claim.new.self) slot) written refl

pub returns-clause-room : goal.returns-clause-room
returns-clause-room c =
    let slot = c.index_mut.result.now in
    let read = c.index_mut.ensures.value in
    let row = c.requires.offered.0 in
    let P : OpenView → Type 0 = λ job. TakesRoom (is_node job c.args.item) c.args.slot.now (frame_of c.claim.result).places c.claim.new.slot in
    (row, c.requires.offered.1, in_row _ c.args.self.now c.self.view_is c.args.row slot read row c.requires.offered.1 P (job_had slot c.job_in.result.now P c.job_in.ensures.value c.claim.ensures.room))

pub claim-requires-clause-room : goal.claim-requires-clause-room
claim-requires-clause-room c =
    let slot = c.index_mut.result.now in
    let P : OpenView → Type 0 = λ job. HasRoomFor job.room c.args.slot.now in
    job_has slot c.job_in.result.now P c.job_in.ensures.value (slot_has _ c.args.self.now c.self.view_is c.args.row slot c.index_mut.ensures.value P c.requires.room)
