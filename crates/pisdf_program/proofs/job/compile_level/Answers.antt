use Rattle.std.proofs.Common.{inl, subst}
use Rattle.pisdf_program.proofs.Jobs.{Compilers, fault_ends, fault_only, job_only}
use Rattle.pisdf_program.proofs.job.compile_level.Goals as goal

pub returns-in-Ok-clause-only : goal.returns-in-Ok-clause-only
returns-in-Ok-clause-only c =
    let only = subst (Compilers c.args.workers c.args.level.now) c.in-Ok.is (c.compile.ensures.only_compilation, c.compile.ensures.only_fault) in
    λ end h. inl (job_only c.args.top.now c.args.workers c.args.level.now c.in-Ok.job only end h)

pub returns-in-Err-clause-compiles : goal.returns-in-Err-clause-compiles
returns-in-Err-clause-compiles c = fault_ends c.args.top.now c.args.workers c.args.level.now c.in-Err.fault c.uncompiled.result c.in-Err.ensures.refused c.uncompiled.ensures

pub returns-in-Err-clause-only : goal.returns-in-Err-clause-only
returns-in-Err-clause-only c =
    let only = subst (Compilers c.args.workers c.args.level.now) c.in-Err.is (c.compile.ensures.only_compilation, c.compile.ensures.only_fault) in
    fault_only c.args.top.now c.args.workers c.args.level.now c.in-Err.fault c.uncompiled.result only c.uncompiled.ensures
