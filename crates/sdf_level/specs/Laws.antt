-- Laws of runs and of repetition vectors, over any tokens, faults and firings.
use Rattle.std.specs.Prelude.{◌≡◌, ℕ, ◌≤◌, ◌<◌, ◌*◌, ◌↔◌, List, [], length, map, slice_index, Result, Ok, Err}
use Rattle.sdf_level.specs.View.{LevelView}
use Rattle.sdf_level.specs.Invariants.{IsLevel}
use Rattle.sdf_level.specs.Links.{Outer, EachInner, EachOuter}
use Rattle.sdf_level.specs.Balance.{IsBalanced}
use Rattle.sdf_level.specs.Repetition.{IsRepetition}
use Rattle.sdf_level.specs.Firings.{CanFireAfter, EachFiring}
use Rattle.sdf_level.specs.Orders.{IsAdmissible}
use Rattle.sdf_level.specs.Run.{Fire, inputs, Runs}
use Rattle.sdf_level.specs.LevelRun.{Ended, HaveRates, GivesRates, HaveDelays, IsLevelRun, kept, left_of}
use Rattle.sdf_level.specs.Told.{Made, lines_of, reads_after, final_reads, Tells, IsTold, IsFaultTold}
use Rattle.sdf_level.specs.Images.{image, image_made, image_answer, image_end, Respects}
use Rattle.sdf_level.specs.declared.link.Link.{Link}

-- a firing: the actor, how often it fired before, what it reads and what it gives
pub record Firing (T F : Type 0) : Type 0 where
  pub actor : ℕ
  pub turn : ℕ
  pub inputs : List (List T)
  pub answer : Result (List (List T)) F

-- The firings that can be, each known by some element of R: any relation between a firing's inputs and its answer, and not
-- a function alone.
abbrev pub among : {T F R : Type 0} → (R → Firing T F) → Fire T F
among {T} {F} {R} firing b k ins answer = (r : R) × (firing r ≡ record { actor = b; turn = k; inputs = ins; answer = answer })

-- where one admissible list comes to these lines without a fault, every other comes to the same
abbrev pub OrdersGiveSameTokens : Type 0 → Type 0 → Type 0 → Type 0
OrdersGiveSameTokens T F R =
    (level : LevelView) (firing : R → Firing T F) (sources delays : List (List T)) (q one other : List ℕ) (lines : List (List T)) →
    GivesRates level (among firing) → HaveDelays level.links delays → IsAdmissible level q one → IsAdmissible level q other →
    Runs level (among firing) sources delays one (Ok lines) → Runs level (among firing) sources delays other (Ok lines)

-- a list comes to these lines exactly where there is what each firing made, so that each made it of what it read
abbrev pub RunsAreTold : Type 0 → Type 0 → Type 0 → Type 0
RunsAreTold T F R =
    (level : LevelView) (firing : R → Firing T F) (sources delays : List (List T)) (list : List ℕ) (lines : List (List T)) →
    Runs level (among firing) sources delays list (Ok lines) ↔ IsTold level (among firing) sources delays list lines

-- it comes to a fault exactly where this is so of the firings before some firing that gives the fault
abbrev pub FaultsAreTold : Type 0 → Type 0 → Type 0 → Type 0
FaultsAreTold T F R =
    (level : LevelView) (firing : R → Firing T F) (sources delays : List (List T)) (list : List ℕ) (fault : F) →
    Runs level (among firing) sources delays list (Err fault) ↔ IsFaultTold level (among firing) sources delays list fault

-- what the firings of one admissible list made, those of every other make
abbrev pub OrdersAreToldAlike : Type 0 → Type 0 → Type 0 → Type 0
OrdersAreToldAlike T F R =
    (level : LevelView) (firing : R → Firing T F) (sources delays : List (List T)) (made : Made T) (q one other : List ℕ) →
    GivesRates level (among firing) → HaveDelays level.links delays → IsAdmissible level q one → IsAdmissible level q other →
    EachFiring (Tells level (among firing) sources delays made) [] one → EachFiring (Tells level (among firing) sources delays made) [] other

-- so many firings of each actor made as many tokens as the rates of its output ports
abbrev pub MadeRates : {T : Type 0} → LevelView → (ℕ → ℕ) → Made T → Type 0
MadeRates level fired made = (a j : ℕ) → j < fired a → HaveRates a (made a j) level.links

-- what each firing of an admissible list made has these lengths
abbrev pub ToldHaveRates : Type 0 → Type 0 → Type 0 → Type 0
ToldHaveRates T F R =
    (level : LevelView) (firing : R → Firing T F) (sources delays : List (List T)) (made : Made T) (q list : List ℕ) →
    GivesRates level (among firing) → IsAdmissible level q list → EachFiring (Tells level (among firing) sources delays made) [] list →
    MadeRates level (λ a. slice_index q a) made

-- an actor that finds its tokens reads of the lines what it would read of them after any more firings
abbrev pub ReadsStay : Type 0 → Type 0
ReadsStay T =
    (level : LevelView) (sources delays : List (List T)) (made : Made T) (before later : ℕ → ℕ) (b : ℕ) →
    HaveDelays level.links delays → MadeRates level later made → ((a : ℕ) → before a ≤ later a) → CanFireAfter level before b →
    inputs sources b (before b) level.links (lines_of made before level.links delays) ≡ inputs sources b (before b) level.links (lines_of made later level.links delays)

-- each firing of an admissible list reads of the lines before it what it would read of the lines after all
abbrev pub ReadsAreFinal : Type 0 → Type 0
ReadsAreFinal T =
    (level : LevelView) (sources delays : List (List T)) (made : Made T) (q list : List ℕ) →
    HaveDelays level.links delays → MadeRates level (λ a. slice_index q a) made → IsAdmissible level q list →
    EachFiring (λ before b. reads_after level sources delays made before b ≡ final_reads level sources delays made list before b) [] list

-- what is left on the links is again as long as their delays
abbrev pub LeavesDelays : Type 0 → Type 0 → Type 0 → Type 0
LeavesDelays T F R =
    (level : LevelView) (firing : R → Firing T F) (sources delays : List (List T)) (q list : List ℕ) (lines : List (List T)) →
    IsLevel level → IsRepetition level q → GivesRates level (among firing) → HaveDelays level.links delays → IsAdmissible level q list →
    Runs level (among firing) sources delays list (Ok lines) → HaveDelays level.links (left_of q level.links lines)

-- what the sinks keep is as long as their rates
abbrev pub KeepsRates : Type 0 → Type 0 → Type 0 → Type 0
KeepsRates T F R =
    (level : LevelView) (firing : R → Firing T F) (sources delays : List (List T)) (q list : List ℕ) (lines : List (List T)) →
    IsLevel level → IsRepetition level q → GivesRates level (among firing) → HaveDelays level.links delays → IsAdmissible level q list →
    Runs level (among firing) sources delays list (Ok lines) → map length (kept level lines) ≡ level.sinks

-- a run over images comes to the image of what the run comes to
abbrev pub RunsHaveImages : Type 0 → Type 0 → Type 0 → Type 0 → Type 0 → Type 0
RunsHaveImages S T F R Q =
    (level : LevelView) (f : S → T) (firing : R → Firing S F) (other : Q → Firing T F) (sources delays : List (List S)) (list : List ℕ) (end : Result (List (List S)) F) →
    Respects f (among firing) (among other) →
    Runs level (among firing) sources delays list end → Runs level (among other) (image f sources) (image f delays) list (image_answer f end)

-- the run of one thread too
abbrev pub LevelRunsHaveImages : Type 0 → Type 0 → Type 0 → Type 0 → Type 0 → Type 0
LevelRunsHaveImages S T F R Q =
    (level : LevelView) (q : List ℕ) (f : S → T) (firing : R → Firing S F) (other : Q → Firing T F) (sources delays : List (List S)) (end : Result (Ended S) F) →
    Respects f (among firing) (among other) →
    IsLevelRun level q sources delays (among firing) end → IsLevelRun level q (image f sources) (image f delays) (among other) (image_end f end)

-- so do the lines of what was made
abbrev pub LinesHaveImages : Type 0 → Type 0 → Type 0
LinesHaveImages S T =
    (f : S → T) (made : Made S) (fired : ℕ → ℕ) (links : List Link) (starts : List (List S)) →
    lines_of (image_made f made) fired links (image f starts) ≡ image f (lines_of made fired links starts)

-- and what firings read of lines
abbrev pub ReadsHaveImages : Type 0 → Type 0 → Type 0
ReadsHaveImages S T =
    (f : S → T) (sources lines : List (List S)) (links : List Link) (b k : ℕ) →
    inputs (image f sources) b k links (image f lines) ≡ image f (inputs sources b k links lines)

-- in all its firings the actor takes at least the rate of the source, or gives at least that of the sink
abbrev pub Reaches : List ℕ → Outer → Type 0
Reaches q link = link.outside ≤ slice_index q link.actor * link.rate

-- what repetition vectors are to a level: they balance its links between two actors, and serve its sources and sinks
pub record Suffices (level : LevelView) (q : List ℕ) : Type 0 where
  pub at_least_one : (a : ℕ) → a < level.actors → 1 ≤ slice_index q a
  pub balanced : EachInner (IsBalanced q) level.links
  pub reaches : EachOuter (Reaches q) level level.links
