-- How far configuration actors are, as the code has it.
use Rattle.std.specs.Prelude.{ℤ, Bool, true, false, List, [], ◌∷◌, Option, Some, None, Vec}
use Rattle.std.specs.Global.{Global}
use Rattle.kernel_gate.specs.Value.{Places}
use Rattle.nested_jobs.specs.Marks as mark
use Rattle.nested_jobs.specs.Marks.{Mark}
use Rattle.pisdf_meaning.specs.declared.firing.Firing.{Firing}
use Rattle.pisdf_meaning.specs.declared.refusal.Refusal.{Refusal}
use Rattle.job_rules.specs.Words as words
use Rattle.job_rules.specs.Words.{Answer}
use Rattle.job_preparing.specs.Handing.{given_of}
use Rattle.job_preparing.specs.declared.stage.Spare.{Spare}
use Rattle.job_preparing.specs.declared.stage.Stage.{Stage}
use Rattle.job_preparing.specs.declared.stage.Stage.TheVariants.{Fires, Calls, Busy, Open, Gave, Refused}

-- what a clause sees of it
abbrev pub mark_of : Stage → Mark Firing Answer
mark_of (Fires spare) = mark.Free
mark_of Calls = mark.Free
mark_of (Busy told spare) = mark.Busy
mark_of (Open told line) = mark.Open told.value
mark_of (Gave told) = mark.Done (words.Gives (given_of told.value))
mark_of (Refused refusal) = mark.Done (words.Refuses refusal)

abbrev pub lent_of : Stage → Option Places
lent_of (Fires spare) = None
lent_of Calls = None
lent_of (Busy told spare) = Some told.frame.places
lent_of (Open told line) = None
lent_of (Gave told) = None
lent_of (Refused refusal) = None

-- what is ready for the finish of a kernel
abbrev pub spare_in : Stage → Option Spare
spare_in (Fires spare) = Some spare
spare_in Calls = None
spare_in (Busy told spare) = Some spare
spare_in (Open told line) = None
spare_in (Gave told) = None
spare_in (Refused refusal) = None

-- the room for the state of a graph that is fired
abbrev pub line_in : Stage → Option (Vec ℤ Global)
line_in (Fires spare) = None
line_in Calls = None
line_in (Busy told spare) = None
line_in (Open told line) = Some line
line_in (Gave told) = None
line_in (Refused refusal) = None

-- a kernel whose frame waits
abbrev pub is_kernel : Stage → Bool
is_kernel (Fires spare) = true
is_kernel Calls = false
is_kernel (Busy told spare) = false
is_kernel (Open told line) = false
is_kernel (Gave told) = false
is_kernel (Refused refusal) = false

-- a graph that isn't called yet
abbrev pub is_call : Stage → Bool
is_call (Fires spare) = false
is_call Calls = true
is_call (Busy told spare) = false
is_call (Open told line) = false
is_call (Gave told) = false
is_call (Refused refusal) = false

abbrev pub has_given : Stage → Bool
has_given (Fires spare) = false
has_given Calls = false
has_given (Busy told spare) = false
has_given (Open told line) = false
has_given (Gave told) = true
has_given (Refused refusal) = false

abbrev pub is_done : Stage → Bool
is_done (Fires spare) = false
is_done Calls = false
is_done (Busy told spare) = false
is_done (Open told line) = false
is_done (Gave told) = true
is_done (Refused refusal) = true

abbrev pub refusal_of : Stage → Option Refusal
refusal_of (Fires spare) = None
refusal_of Calls = None
refusal_of (Busy told spare) = None
refusal_of (Open told line) = None
refusal_of (Gave told) = None
refusal_of (Refused refusal) = Some refusal

-- the first of the two that is there
abbrev pub or_else : {T : Type 0} → Option T → Option T → Option T
or_else None later = later
or_else (Some one) later = Some one

-- the first refusal
abbrev pub refusal_in : List Stage → Option Refusal
refusal_in [] = None
refusal_in (stage ∷ stages) = or_else (refusal_of stage) (refusal_in stages)
