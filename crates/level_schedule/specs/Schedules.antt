-- How one thread fires a level, and why it can't.
use Rattle.std.specs.Prelude.{◌≡◌, ℕ, List}
use Rattle.sdf_level.specs.View.{LevelView}
use Rattle.sdf_level.specs.Repetition.{IsRepetition, HasNoRepetition}
use Rattle.sdf_level.specs.Limits.{firing_count, link_count, token_count, IsWithinLimits, HasTooManyFirings, HasTooManyLinks, HasTooManyTokens}
use Rattle.sdf_level.specs.Orders.{IsDeadlocked, IsTurnOrder, IsLeft}
use Rattle.level_schedule.specs.declared.scheduling.LevelSchedule.{LevelSchedule}
use Rattle.level_schedule.specs.declared.unscheduled.What.{What}
use Rattle.level_schedule.specs.declared.unscheduled.Unscheduled.{Unscheduled}
use Rattle.level_schedule.specs.declared.unscheduled.What.TheVariants.{Firings, Links, Tokens}
use Rattle.level_schedule.specs.declared.unscheduled.Unscheduled.TheVariants.{Rates, Limit, Deadlock, Memory}

-- the repetition vector, within the limits, and its firings in the order of one thread
pub record IsScheduled (level : LevelView) (s : LevelSchedule) : Type 0 where
  pub repetition : IsRepetition level s.counts
  pub within : IsWithinLimits level s.counts
  pub order : IsTurnOrder level s.counts s.order

abbrev pub count_of : What → LevelView → List ℕ → ℕ
count_of Firings level q = firing_count q
count_of Links level q = link_count level q
count_of Tokens level q = token_count level q

-- of firings, links and tokens the first over its limit
abbrev pub IsFirstOver : What → LevelView → List ℕ → Type 0
IsFirstOver Firings level q = HasTooManyFirings q
IsFirstOver Links level q = HasTooManyLinks level q
IsFirstOver Tokens level q = HasTooManyTokens level q

-- the repetition vector is over a limit, first of all by this count
pub record IsOverLimit (level : LevelView) (what : What) (value : ℕ) : Type 0 where
  pub counts : List ℕ
  pub repetition : IsRepetition level counts
  pub over : IsFirstOver what level counts
  pub value_is : value ≡ count_of what level counts

-- no order fires the repetition vector, and these counts are left
pub record EndsInDeadlock (level : LevelView) (left : List ℕ) : Type 0 where
  pub counts : List ℕ
  pub repetition : IsRepetition level counts
  pub within : IsWithinLimits level counts
  pub deadlock : IsDeadlocked level counts
  pub left_is : IsLeft level counts left

-- the first fault of the level. Want of memory is none of a level
abbrev pub IsUnscheduled : LevelView → Unscheduled → Type 0
IsUnscheduled level Rates = HasNoRepetition level
IsUnscheduled level (Limit what value) = IsOverLimit level what value
IsUnscheduled level (Deadlock left) = EndsInDeadlock level left
IsUnscheduled level Memory = ⊥
