use Rattle.std.proofs.Common.{◌≡◌, refl, ap, arith}
use Rattle.std.proofs.lemmas.Result.{IfOk-weaker, on_ok_weaker}
use Rattle.nested_jobs.specs.Marks.{Busy}
use Rattle.graph_firing.specs.Calls.{with_mark}
use Rattle.graph_firing.specs.View.{HasItem, IsOfferedCompilation, OpenView, compilation_of, free_one, key_in, left_by}
use Rattle.job_preparing.specs.CompileTasks.{CompileView}
use Rattle.job_preparing.specs.Handing.{mark_at}
use Rattle.job_preparing.specs.Levels.{SuitsKey, compilation_in}
use Rattle.firing_board.specs.Table.Slots.{change_row}
use Rattle.firing_board.proofs.OfTable.LentJobs.{job_had, job_has, job_same, job_written, left_with}
use Rattle.firing_board.proofs.OfTable.Methods.{busy_lent, busy_room, changed, in_row, item_freed, mark_marked, on_err_weaker, slot_has, slot_same}
use Rattle.firing_board.proofs.table.JobTable.claim_compile.Goals as goal

pub returns-clause-task : goal.returns-clause-task
returns-clause-task c =
    IfOk-weaker c.claim_compile.result _ _
    (λ (task : CompileView) is. (
      c.requires.offered.0,
      c.requires.offered.1,
      in_row _ c.args.self.now c.self.view_is c.args.row c.index_mut.result.now c.index_mut.ensures.value c.requires.offered.0 c.requires.offered.1
          (λ (job : OpenView). task ≡ record { graphs = job.graphs; workers = job.workers; firing = job.firing; left = left_by job; kept = compilation_in c.args.at_hand }) (job_had c.index_mut.result.now c.job_in.result.now (λ (job : OpenView). task ≡ record { graphs = job.graphs; workers = job.workers; firing = job.firing; left = left_by job; kept = compilation_in c.args.at_hand }) c.job_in.ensures.value is),
    ))
    c.claim_compile.ensures.task

pub returns-clause-claimed : goal.returns-clause-claimed
returns-clause-claimed c =
    let slot = c.index_mut.result.now in
    let read = c.index_mut.ensures.value in
    let row = c.requires.offered.0 in
    on_ok_weaker c.claim_compile.result
    (λ is.
    let written = changed _ c.args.self.now c.self.view_is c.args.row slot read row c.requires.offered.1 (λ (job : OpenView). with_mark job (compilation_of job) Busy) (change_row (λ (_ : OpenView). c.claim_compile.new.self) slot) (job_written slot c.job_in.result.now c.claim_compile.new.self (λ (job : OpenView). with_mark job (compilation_of job) Busy) c.job_in.ensures.value is) in (
      row,
      c.requires.offered.1,
      mark_marked _ c.args.self.now c.self.view_is c.args.row slot read row c.requires.offered.1 (compilation_of row.job) Busy (change_row (λ (_ : OpenView). c.claim_compile.new.self) slot) written
          (in_row _ c.args.self.now c.self.view_is c.args.row slot read row c.requires.offered.1 (λ (job : OpenView). HasItem job (compilation_of job)) (job_had slot c.job_in.result.now (λ (job : OpenView). HasItem job (compilation_of job)) c.job_in.ensures.value c.claim_compile.ensures.there)).marked,
    ))
    c.claim_compile.ensures.claimed

pub returns-clause-fewer : goal.returns-clause-fewer
returns-clause-fewer c =
    let slot = c.index_mut.result.now in
    let read = c.index_mut.ensures.value in
    let row = c.requires.offered.0 in
    on_ok_weaker c.claim_compile.result
    (λ is.
    let written = changed _ c.args.self.now c.self.view_is c.args.row slot read row c.requires.offered.1 (λ (job : OpenView). with_mark job (compilation_of job) Busy) (change_row (λ (_ : OpenView). c.claim_compile.new.self) slot) (job_written slot c.job_in.result.now c.claim_compile.new.self (λ (job : OpenView). with_mark job (compilation_of job) Busy) c.job_in.ensures.value is) in
    let all = item_freed _ c.args.self.now c.self.view_is c.args.row slot read row c.requires.offered.1 (compilation_of row.job) Busy (with_mark row.job (compilation_of row.job) Busy) (change_row (λ (_ : OpenView). c.claim_compile.new.self) slot) written refl
    (in_row _ c.args.self.now c.self.view_is c.args.row slot read row c.requires.offered.1 (λ (job : OpenView). HasItem job (compilation_of job)) (job_had slot c.job_in.result.now (λ (job : OpenView). HasItem job (compilation_of job)) c.job_in.ensures.value c.claim_compile.ensures.there)).marked in
    let one : free_one (mark_at row.job.marks (compilation_of row.job)) ≡ 1 = ap free_one c.requires.offered.2.free in
    omega (arith, all, one))
    c.claim_compile.ensures.claimed

pub claim_compile-requires-clause-offered : goal.claim_compile-requires-clause-offered
claim_compile-requires-clause-offered c =
    let slot = c.index_mut.result.now in
    let P : OpenView → Type 0 = IsOfferedCompilation in
    job_has slot c.job_in.result.now P c.job_in.ensures.value (slot_has _ c.args.self.now c.self.view_is c.args.row slot c.index_mut.ensures.value P c.requires.offered)

pub claim_compile-requires-clause-suits : goal.claim_compile-requires-clause-suits
claim_compile-requires-clause-suits c =
    let slot = c.index_mut.result.now in
    let P : OpenView → Type 0 = λ job. SuitsKey job.graphs.graphs (key_in job) c.args.at_hand in
    job_has slot c.job_in.result.now P c.job_in.ensures.value (slot_has _ c.args.self.now c.self.view_is c.args.row slot c.index_mut.ensures.value P c.requires.suits)

pub returns-clause-refused : goal.returns-clause-refused
returns-clause-refused c =
    let slot = c.index_mut.result.now in
    on_err_weaker c.claim_compile.result (c.claim_compile.new.self ≡ c.job_in.result.now) _
    (λ is. slot_same _ c.args.self.now c.self.view_is c.args.row slot c.index_mut.ensures.value (left_with c.claim_compile.new.self slot) (job_same slot c.job_in.result.now c.claim_compile.new.self c.job_in.ensures.value is))
    c.claim_compile.ensures.refused

pub returns-clause-lent : goal.returns-clause-lent
returns-clause-lent c =
    let slot = c.index_mut.result.now in
    let read = c.index_mut.ensures.value in
    let row = c.requires.offered.0 in
    let new = c.claim_compile.new.self in
    busy_lent _ c.args.self.now c.self.view_is c.args.row slot read row c.requires.offered.1 c.claim_compile.result (compilation_of row.job) (left_with new slot)
    (on_ok_weaker c.claim_compile.result
    (λ is. changed _ c.args.self.now c.self.view_is c.args.row slot read row c.requires.offered.1 (λ (job : OpenView). with_mark job (compilation_of job) Busy) (left_with new slot)
    (job_written slot c.job_in.result.now new (λ (job : OpenView). with_mark job (compilation_of job) Busy) c.job_in.ensures.value is))
    c.claim_compile.ensures.claimed)
    (on_err_weaker c.claim_compile.result (new ≡ c.job_in.result.now) (left_with new slot ≡ slot) (λ is. job_same slot c.job_in.result.now new c.job_in.ensures.value is) c.claim_compile.ensures.refused)

pub returns-clause-asked : goal.returns-clause-asked
returns-clause-asked c =
    let slot = c.index_mut.result.now in
    let read = c.index_mut.ensures.value in
    let row = c.requires.offered.0 in
    let new = c.claim_compile.new.self in
    busy_room _ c.args.self.now c.self.view_is c.args.row slot read row c.requires.offered.1 c.claim_compile.result (compilation_of row.job) (left_with new slot)
    (on_ok_weaker c.claim_compile.result
    (λ is. changed _ c.args.self.now c.self.view_is c.args.row slot read row c.requires.offered.1 (λ (job : OpenView). with_mark job (compilation_of job) Busy) (left_with new slot)
    (job_written slot c.job_in.result.now new (λ (job : OpenView). with_mark job (compilation_of job) Busy) c.job_in.ensures.value is))
    c.claim_compile.ensures.claimed)
    (on_err_weaker c.claim_compile.result (new ≡ c.job_in.result.now) (left_with new slot ≡ slot) (λ is. job_same slot c.job_in.result.now new c.job_in.ensures.value is) c.claim_compile.ensures.refused)
