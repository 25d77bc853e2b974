use Rattle.std.proofs.Common.{rules}
use Rattle.level_schedule.proofs.OneAnswer.{answers_schedule, answers_fault}
use Rattle.level_schedule.proofs.Passed.{mismatch_passed, stuck_passed}
use Rattle.level_schedule.proofs.scheduling.schedule.Goals as goal

pub returns-in_err-counts-clause-unscheduled : goal.returns-in_err-counts-clause-unscheduled
returns-in_err-counts-clause-unscheduled c = mismatch_passed c.args.level.now c.in_err-counts.field-0.0 c.from_residual-in_err-counts.result c.in_err-counts.ensures.none c.from_residual-in_err-counts.ensures.1

pub returns-in_err-counts-clause-only_schedule : goal.returns-in_err-counts-clause-only_schedule
returns-in_err-counts-clause-only_schedule c = answers_schedule c.args.level.now _ (search rules) (returns-in_err-counts-clause-unscheduled c)

pub returns-in_err-counts-clause-only_fault : goal.returns-in_err-counts-clause-only_fault
returns-in_err-counts-clause-only_fault c = answers_fault c.args.level.now _ (search rules) (returns-in_err-counts-clause-unscheduled c)

pub returns-in-Some-clause-unscheduled : goal.returns-in-Some-clause-unscheduled
returns-in-Some-clause-unscheduled c = search rules

pub returns-in-Some-clause-only_schedule : goal.returns-in-Some-clause-only_schedule
returns-in-Some-clause-only_schedule c = answers_schedule c.args.level.now _ tt (returns-in-Some-clause-unscheduled c)

pub returns-in-Some-clause-only_fault : goal.returns-in-Some-clause-only_fault
returns-in-Some-clause-only_fault c = answers_fault c.args.level.now _ tt (returns-in-Some-clause-unscheduled c)

pub returns-in_err-order-clause-unscheduled : goal.returns-in_err-order-clause-unscheduled
returns-in_err-order-clause-unscheduled c =
    stuck_passed c.args.level.now c.in_ok-counts.counts c.in_err-order.field-0.0 c.from_residual-in_err-order.result
    c.in_ok-counts.ensures.repetition (rw c.items-2.ensures at c.in_default.ensures.within)
    (rw c.items-3.ensures at c.in_err-order.ensures.left_is_deadlock) (rw c.items-3.ensures at c.in_err-order.ensures.left) c.from_residual-in_err-order.ensures.1

pub returns-in_err-order-clause-only_schedule : goal.returns-in_err-order-clause-only_schedule
returns-in_err-order-clause-only_schedule c = answers_schedule c.args.level.now _ (search rules) (returns-in_err-order-clause-unscheduled c)

pub returns-in_err-order-clause-only_fault : goal.returns-in_err-order-clause-only_fault
returns-in_err-order-clause-only_fault c = answers_fault c.args.level.now _ (search rules) (returns-in_err-order-clause-unscheduled c)

pub returns-clause-scheduled : goal.returns-clause-scheduled
returns-clause-scheduled c = search rules

pub returns-clause-only_schedule : goal.returns-clause-only_schedule
returns-clause-only_schedule c = answers_schedule c.args.level.now _ (returns-clause-scheduled c) tt

pub returns-clause-only_fault : goal.returns-clause-only_fault
returns-clause-only_fault c = answers_fault c.args.level.now _ (returns-clause-scheduled c) tt
