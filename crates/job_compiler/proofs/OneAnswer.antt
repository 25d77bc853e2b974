-- A level has no two faults, and none where it has a schedule.
use Rattle.std.proofs.Common.{◌≡◌, ◌⊎◌, inl, inr, ⊎_elim, ap, ◌∙◌, Result, Ok, Err}
use Rattle.std.specs.Result.{IsErrAnd}
use Rattle.sdf_level.specs.View.{LevelView}
use Rattle.level_schedule.specs.declared.scheduling.LevelSchedule.{LevelSchedule}
use Rattle.level_schedule.specs.declared.unscheduled.Unscheduled.{Unscheduled}
use Rattle.level_schedule.specs.declared.unscheduled.Unscheduled.TheVariants.{Memory}
use Rattle.level_schedule.specs.Schedules.{IsUnscheduled}

-- what a `?` makes of an error
pub err_is : {X : Type 0} (result : Result X Unscheduled) (fault : Unscheduled) → IsErrAnd result (λ f. f ≡ fault) → result ≡ Err fault
err_is (Ok x) fault passed = absurd passed
err_is (Err f) fault passed = ap (λ (g : Unscheduled). Err g) passed

module _ (level : LevelView) (r : Result LevelSchedule Unscheduled) (told : (cause : Unscheduled) → IsUnscheduled level cause → (r ≡ Err cause) ⊎ (r ≡ Err Memory)) where
  -- a fault that is passed on is the one that stands, or want of memory
  pub fault_passed : {X : Type 0} (e : Unscheduled) (result : Result X Unscheduled) → r ≡ Err e → result ≡ Err e →
      (fault : Unscheduled) → IsUnscheduled level fault → (result ≡ Err fault) ⊎ (result ≡ Err Memory)
  fault_passed e result was passed fault refused = ⊎_elim
      (λ (same : r ≡ Err fault). let own : e ≡ fault = cc in inl (passed ∙ ap (λ (u : Unscheduled). Err u) own))
      (λ (none : r ≡ Err Memory). let own : e ≡ Memory = cc in inr (passed ∙ ap (λ (u : Unscheduled). Err u) own))
      (told fault refused)

  -- where there is a schedule, no fault stands
  pub no_fault : (s : LevelSchedule) → r ≡ Ok s → (fault : Unscheduled) → IsUnscheduled level fault → ⊥
  no_fault s was fault refused = ⊎_elim
      (λ (same : r ≡ Err fault). absurd (cc))
      (λ (none : r ≡ Err Memory). absurd (cc))
      (told fault refused)
