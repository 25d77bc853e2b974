-- Laws of unfolding, over any tokens, faults and firings.
use Rattle.std.specs.Prelude.{◌≡◌, ℕ, suc, ◌≤◌, ◌↔◌, List, Result, Ok}
use Rattle.std.specs.List.{AllByRecursion}
use Rattle.sdf_level.specs.View.{LevelView}
use Rattle.sdf_level.specs.Invariants.{IsLevel, rate_limit}
use Rattle.sdf_level.specs.Repetition.{IsRepetition}
use Rattle.sdf_level.specs.Limits.{IsWithinLimits}
use Rattle.sdf_level.specs.Orders.{IsAdmissible}
use Rattle.sdf_level.specs.Run.{Runs}
use Rattle.sdf_level.specs.LevelRun.{Ended, GivesRates, HaveDelays, IsLevelRun, RunEnds, end_of}
use Rattle.sdf_level.specs.Laws.{Firing, among}
use Rattle.level_schedule.specs.Schedules.{IsScheduled}
use Rattle.level_schedule.specs.declared.scheduling.LevelSchedule.{LevelSchedule}
use Rattle.level_laws.specs.Unfolded.{multiplied, unfolded, copies, IsExactLevel}
use Rattle.level_laws.specs.Pieces.{GoInTurn, HaveTokens, IsCut, IsCutRun, first_tokens, one_and_others, other_tokens}
use Rattle.level_laws.specs.Parts.{GoByParts, GoesAtOnce, parts}

-- where its rates are within the limit, the unfolded level is one
abbrev pub UnfoldedIsLevel : Type 0
UnfoldedIsLevel =
    (times : ℕ) (level : LevelView) → IsLevel level → AllByRecursion (λ r. r ≤ rate_limit) (multiplied times level.sources) → AllByRecursion (λ r. r ≤ rate_limit) (multiplied times level.sinks) →
    IsLevel (unfolded times level)

-- its repetition vector is that of one iteration, multiplied
abbrev pub CountsAreMultiplied : Type 0
CountsAreMultiplied = (times : ℕ) (level : LevelView) (q : List ℕ) → 1 ≤ times → IsExactLevel level q → IsRepetition (unfolded times level) (multiplied times q)

-- copies of an admissible list are admissible for it
abbrev pub CopiesAreAdmissible : Type 0
CopiesAreAdmissible =
    (times : ℕ) (level : LevelView) (q list : List ℕ) → IsExactLevel level q → IsAdmissible level q list → IsAdmissible (unfolded times level) (multiplied times q) (copies times list)

-- it has a schedule with these counts, if they are within the limits and one iteration has a schedule
pub record HasMultipliedSchedule (times : ℕ) (level : LevelView) (counts : List ℕ) : Type 0 where
  pub schedule : LevelSchedule
  pub counts_are : schedule.counts ≡ multiplied times counts
  pub is : IsScheduled (unfolded times level) schedule

abbrev pub UnfoldedIsScheduled : Type 0
UnfoldedIsScheduled =
    (times : ℕ) (level : LevelView) (s : LevelSchedule) → 1 ≤ times → IsExactLevel level s.counts → IsScheduled level s → IsWithinLimits level (multiplied times s.counts) →
    HasMultipliedSchedule times level s.counts

-- its run of one thread ends as that over copies of any admissible list of one iteration
abbrev pub CopiesTakeItsPlace : Type 0 → Type 0 → Type 0 → Type 0
CopiesTakeItsPlace T F R =
    (times : ℕ) (level : LevelView) (firing : R → Firing T F) (sources starts : List (List T)) (q list : List ℕ) (end : Ended T) →
    IsExactLevel level q → GivesRates level (among firing) → HaveDelays level.links starts → IsAdmissible level q list →
    IsLevelRun (unfolded times level) (multiplied times q) sources starts (among firing) (Ok end) ↔ RunEnds (unfolded times level) (multiplied times q) sources starts (among firing) (copies times list) (Ok end)

-- a run over copies is one over the first and then one over the others
abbrev pub RunsAreCut : Type 0 → Type 0 → Type 0 → Type 0
RunsAreCut T F R =
    (times : ℕ) (level : LevelView) (firing : R → Firing T F) (sources starts : List (List T)) (q list : List ℕ) (lines : List (List T)) →
    IsExactLevel level q → GivesRates level (among firing) → HaveDelays level.links starts → HaveTokens (suc times) level sources → IsAdmissible level q list →
    Runs level (among firing) sources starts (copies (suc times) list) (Ok lines) ↔ IsCut level (among firing) q sources starts list (copies times list) lines

-- what such a run keeps at the sinks is what the first keeps and then what the others keep; what it leaves is what these leave
abbrev pub EndsAreJoined : Type 0 → Type 0 → Type 0 → Type 0
EndsAreJoined T F R =
    (times : ℕ) (level : LevelView) (firing : R → Firing T F) (sources starts : List (List T)) (q list : List ℕ) (lines : List (List T)) →
    IsExactLevel level q → GivesRates level (among firing) → HaveDelays level.links starts → IsAdmissible level q list → (cut : IsCut level (among firing) q sources starts list (copies times list) lines) →
    end_of (unfolded (suc times) level) (multiplied (suc times) q) lines ≡ one_and_others (end_of level q cut.one) (end_of (unfolded times level) (multiplied times q) cut.others)

-- so the run of one thread through the unfolded level is one through the level and then one through the others
abbrev pub LevelRunsAreCut : Type 0 → Type 0 → Type 0 → Type 0
LevelRunsAreCut T F R =
    (times : ℕ) (level : LevelView) (firing : R → Firing T F) (sources starts : List (List T)) (q list : List ℕ) (end : Ended T) →
    IsExactLevel level q → GivesRates level (among firing) → HaveDelays level.links starts → HaveTokens (suc times) level sources → IsAdmissible level q list →
    IsLevelRun (unfolded (suc times) level) (multiplied (suc times) q) sources starts (among firing) (Ok end) ↔ IsCutRun level (among firing) q sources starts times end

-- and so that of all iterations, one after another
abbrev pub IterationsGoInTurn : Type 0 → Type 0 → Type 0 → Type 0
IterationsGoInTurn T F R =
    (times : ℕ) (level : LevelView) (firing : R → Firing T F) (sources starts : List (List T)) (q list : List ℕ) (end : Ended T) →
    IsExactLevel level q → GivesRates level (among firing) → HaveDelays level.links starts → HaveTokens times level sources → IsAdmissible level q list →
    IsLevelRun (unfolded times level) (multiplied times q) sources starts (among firing) (Ok end) ↔ GoInTurn level (among firing) q times sources starts end

-- each with its part of the tokens at the sources and at the sinks
abbrev pub IterationsHaveParts : Type 0 → Type 0 → Type 0 → Type 0
IterationsHaveParts T F R =
    (times : ℕ) (level : LevelView) (firing : R → Firing T F) (sources starts : List (List T)) (q list : List ℕ) (end : Ended T) →
    IsExactLevel level q → GivesRates level (among firing) → HaveDelays level.links starts → HaveTokens times level sources → IsAdmissible level q list →
    IsLevelRun (unfolded times level) (multiplied times q) sources starts (among firing) (Ok end) → GoByParts level (among firing) q (parts times sources) starts (parts times end.outs) end.left

-- and iterations with their parts are the unfolded run
abbrev pub PartsGoAtOnce : Type 0 → Type 0 → Type 0 → Type 0
PartsGoAtOnce T F R =
    (times : ℕ) (level : LevelView) (firing : R → Firing T F) (sources starts : List (List T)) (q list : List ℕ) (outs : List (List (List T))) (left : List (List T)) →
    IsExactLevel level q → GivesRates level (among firing) → HaveDelays level.links starts → HaveTokens times level sources → IsAdmissible level q list →
    GoByParts level (among firing) q (parts times sources) starts outs left → GoesAtOnce times level (among firing) q sources starts outs left

-- a run stays one where each of its firings is one of other firings
abbrev pub RunsHaveLike : Type 0 → Type 0 → Type 0 → Type 0 → Type 0
RunsHaveLike T F R Q =
    (level : LevelView) (firing : R → Firing T F) (other : Q → Firing T F) (sources starts : List (List T)) (q : List ℕ) (end : Result (Ended T) F) →
    ((b k : ℕ) (ins : List (List T)) (answer : Result (List (List T)) F) → among firing b k ins answer → among other b k ins answer) →
    IsLevelRun level q sources starts (among firing) end → IsLevelRun level q sources starts (among other) end

-- the sources of the first and of the others hold as many tokens as these take
abbrev pub TokensAreCut : Type 0 → Type 0
TokensAreCut T =
    (times : ℕ) (level : LevelView) (sources : List (List T)) → HaveTokens (suc times) level sources →
    HaveTokens 1 level (first_tokens level.sources sources) × HaveTokens times level (other_tokens level.sources sources)
