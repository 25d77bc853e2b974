-- A fault of a step is the level's, or want of memory.
use Rattle.std.proofs.Common.{◌≡◌, ◌⊎◌, inl, inr, ℕ, List, Result, Ok, Err, IsErrAnd, IsErrOf, IfErr, refl, sym, subst}
use Rattle.sdf_level.specs.View.{LevelView}
use Rattle.sdf_level.specs.Repetition.{IsRepetition, HasNoRepetition}
use Rattle.sdf_level.specs.Limits.{IsWithinLimits}
use Rattle.sdf_level.specs.Orders.{IsDeadlocked, IsLeft}
use Rattle.interface_rules.specs.declared.fault.InterfaceFault.{InterfaceFault}
use Rattle.firing_order.specs.Answers.{IfLeft}
use Rattle.firing_order.specs.declared.stuck.Stuck.{Stuck}
use Rattle.interface_rules.specs.declared.fault.InterfaceFault.TheVariants as interface
use Rattle.firing_order.specs.declared.stuck.Stuck.TheVariants as stuck
use Rattle.level_schedule.specs.Causes.{of_mismatch, of_stuck}
use Rattle.level_schedule.specs.declared.unscheduled.Unscheduled.{Unscheduled}
use Rattle.level_schedule.specs.declared.unscheduled.Unscheduled.TheVariants.{Memory}
use Rattle.level_schedule.specs.Schedules.{IsUnscheduled}

-- the fault, or want of memory
abbrev pub IsAnswer : LevelView → Unscheduled → Type 0
IsAnswer level fault = IsUnscheduled level fault ⊎ (fault ≡ Memory)

passed : {T : Type 0} (level : LevelView) (cause : Unscheduled) (r : Result T Unscheduled) → IsAnswer level cause → IsErrAnd r (λ fault. fault ≡ cause) → IfErr r (IsAnswer level)
passed level cause (Ok x) is same = tt
passed level cause (Err fault) is same = subst (IsAnswer level) (sym same) is

mismatch_is : {T : Type 0} (level : LevelView) (cause : InterfaceFault) → ((link : ℕ) → IsErrOf {T = T} (Err cause) (interface.Mismatch link) → HasNoRepetition level) → IsAnswer level (of_mismatch cause)
mismatch_is level (interface.Mismatch link) none = inl (none link refl)
mismatch_is level interface.Memory none = inr refl

pub mismatch_passed : {S T : Type 0} (level : LevelView) (cause : InterfaceFault) (r : Result T Unscheduled) → ((link : ℕ) → IsErrOf {T = S} (Err cause) (interface.Mismatch link) → HasNoRepetition level) →
    IsErrAnd r (λ fault. fault ≡ of_mismatch cause) → IfErr r (IsAnswer level)
mismatch_passed level cause r none same = passed level (of_mismatch cause) r (mismatch_is level cause none) same

stuck_is : (level : LevelView) (q : List ℕ) (cause : Stuck) → IsRepetition level q → IsWithinLimits level q → IfLeft (λ left. IsDeadlocked level q) cause → IfLeft (IsLeft level q) cause → IsAnswer level (of_stuck cause)
stuck_is level q (stuck.Left left) is within deadlock left_is = inl record { counts = q; repetition = is; within = within; deadlock = deadlock; left_is = left_is }
stuck_is level q stuck.Memory is within deadlock left_is = inr refl

pub stuck_passed : {T : Type 0} (level : LevelView) (q : List ℕ) (cause : Stuck) (r : Result T Unscheduled) → IsRepetition level q → IsWithinLimits level q → IfLeft (λ left. IsDeadlocked level q) cause → IfLeft (IsLeft level q) cause →
    IsErrAnd r (λ fault. fault ≡ of_stuck cause) → IfErr r (IsAnswer level)
stuck_passed level q cause r is within deadlock left_is same = passed level (of_stuck cause) r (stuck_is level q cause is within deadlock left_is) same
