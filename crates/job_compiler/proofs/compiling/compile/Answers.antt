use Rattle.std.proofs.Common.{refl, inr}
use Rattle.job_compiler.proofs.OneAnswer.{err_is, fault_passed, no_fault}
use Rattle.job_compiler.proofs.OnlyOne.{compilation_is, compilation_passed}
use Rattle.job_compiler.proofs.compiling.compile.Goals as goal

pub returns-in_err-scheduled-clause-only_fault : goal.returns-in_err-scheduled-clause-only_fault
returns-in_err-scheduled-clause-only_fault c =
    fault_passed c.args.level.now c.schedule.result c.schedule.ensures.only_fault c.in_err-scheduled.field-0.0 c.from_residual.result c.in_err-scheduled.was (err_is c.from_residual.result _ c.from_residual.ensures.1)

pub returns-clause-only_fault : goal.returns-clause-only_fault
returns-clause-only_fault c = λ fault refused.
    absurd (no_fault c.args.level.now c.schedule.result c.schedule.ensures.only_fault c.in_ok-scheduled.scheduled c.in_ok-scheduled.was fault refused)

pub returns-in_err-scheduled-clause-only_compilation : goal.returns-in_err-scheduled-clause-only_compilation
returns-in_err-scheduled-clause-only_compilation c = λ other is level workers.
    inr (compilation_passed c.args.level.now c.schedule.result c.schedule.ensures.only_schedule c.in_err-scheduled.field-0.0 c.from_residual.result c.in_err-scheduled.was (err_is c.from_residual.result _ c.from_residual.ensures.1) other is level)

pub returns-clause-only_compilation : goal.returns-clause-only_compilation
returns-clause-only_compilation c = compilation_is c.args.level.now c.args.workers _ _ _ refl c.in_ok-compile_scheduled.ensures.kept c.in_ok-compile_scheduled.ensures.compiled.0 c.in_ok-compile_scheduled.ensures.compiled.1
