use Rattle.std.proofs.Common.{◌≡◌}
use Rattle.std.proofs.lemmas.Result.{on_ok_weaker}
use Rattle.job_preparing.specs.CompileTasks.{IsEndOf}
use Rattle.job_preparing.specs.Handing.{mark_at}
use Rattle.nested_jobs.specs.Marks.{Busy}
use Rattle.graph_firing.specs.View.{OpenView, compilation_of, left_by}
use Rattle.firing_board.proofs.OfTable.LentJobs.{job_compiled, job_has, job_same, left_with}
use Rattle.firing_board.proofs.OfTable.Methods.{compile_lent, compiled, on_err_weaker, slot_has, slot_same}
use Rattle.firing_board.proofs.table.JobTable.finish_compile.Goals as goal

pub finish_compile-requires-clause-busy : goal.finish_compile-requires-clause-busy
finish_compile-requires-clause-busy c =
    let slot = c.index_mut.result.now in
    let P : OpenView → Type 0 = λ job. mark_at job.marks (compilation_of job) ≡ Busy in
    job_has slot c.job_in.result.now P c.job_in.ensures.value (slot_has _ c.args.self.now c.self.view_is c.args.row slot c.index_mut.ensures.value P (c.requires.busy))

pub finish_compile-requires-clause-end : goal.finish_compile-requires-clause-end
finish_compile-requires-clause-end c =
    let slot = c.index_mut.result.now in
    let P : OpenView → Type 0 = λ job. IsEndOf job.graphs.graphs job.workers job.firing (left_by job) c.args.end in
    job_has slot c.job_in.result.now P c.job_in.ensures.value (slot_has _ c.args.self.now c.self.view_is c.args.row slot c.index_mut.ensures.value P (c.requires.end))

pub returns-clause-compiled : goal.returns-clause-compiled
returns-clause-compiled c =
    let slot = c.index_mut.result.now in
    let after = left_with c.finish_compile.new.self slot in
    on_ok_weaker c.finish_compile.result
    (λ is. (c.requires.busy.0, c.requires.busy.1, (compiled _ c.args.self.now c.self.view_is c.args.row slot c.index_mut.ensures.value c.requires.busy.0 c.requires.busy.1 c.args.end after (job_compiled slot c.job_in.result.now c.finish_compile.new.self c.args.end c.job_in.ensures.value is)).0))
    c.finish_compile.ensures.compiled

pub returns-clause-lent : goal.returns-clause-lent
returns-clause-lent c =
    let slot = c.index_mut.result.now in
    let after = left_with c.finish_compile.new.self slot in
    compile_lent _ c.args.self.now c.self.view_is c.args.row slot c.index_mut.ensures.value c.requires.busy.0 c.requires.busy.1 c.args.end after c.finish_compile.result
    (on_ok_weaker c.finish_compile.result (λ is. job_compiled slot c.job_in.result.now c.finish_compile.new.self c.args.end c.job_in.ensures.value is) c.finish_compile.ensures.compiled)
    (on_err_weaker c.finish_compile.result (c.finish_compile.new.self ≡ c.job_in.result.now) (after ≡ slot) (λ is. job_same slot c.job_in.result.now c.finish_compile.new.self c.job_in.ensures.value is) c.finish_compile.ensures.refused)

pub returns-clause-refused : goal.returns-clause-refused
returns-clause-refused c =
    let slot = c.index_mut.result.now in
    on_err_weaker c.finish_compile.result (c.finish_compile.new.self ≡ c.job_in.result.now) _
    (λ is. slot_same _ c.args.self.now c.self.view_is c.args.row slot c.index_mut.ensures.value (left_with c.finish_compile.new.self slot) (job_same slot c.job_in.result.now c.finish_compile.new.self c.job_in.ensures.value is))
    c.finish_compile.ensures.refused
