-- The stage of a configuration actor that gave something.
use Rattle.std.specs.Prelude.{◌≡◌}
use Rattle.job_preparing.specs.declared.handing.JobGiven.{JobGiven}
use Rattle.job_preparing.specs.declared.stage.Stage.{Stage}
use Rattle.job_preparing.specs.declared.stage.Stage.TheVariants.{Fires, Calls, Busy, Open, Gave, Refused}

-- it gave this
abbrev pub IsKeptAs : JobGiven → Stage → Type 0
IsKeptAs given (Fires spare) = ⊥
IsKeptAs given Calls = ⊥
IsKeptAs given (Busy told spare) = ⊥
IsKeptAs given (Open told line) = ⊥
IsKeptAs given (Gave told) = told.value ≡ given
IsKeptAs given (Refused refusal) = ⊥
