-- What a claim wants memory for that has no room yet.
use Rattle.std.specs.Prelude.{◌≡◌, ◌⊎◌, ℕ, false, List, ◌∷◌, Some}
use Rattle.nested_jobs.specs.Journals.{task_of}
use Rattle.nested_jobs.specs.Rules.{Place, Work}
use Rattle.job_rules.specs.Words as words
use Rattle.pisdf_meaning.specs.declared.firing.Configured.{Configured}
use Rattle.pisdf_meaning.specs.declared.firing.Firing.{Firing}
use Rattle.board_rules.specs.Entries.{BoardState, Step}
use Rattle.board_rules.specs.Keys.{Key, rules}
use Rattle.board_rules.specs.Legal.{state_after}
use Rattle.board_rules.specs.Picks.{IsPick, is_open}
use Rattle.firing_board.specs.View.{BoardView, IsAt}

-- the item that is picked for a worker is one of a job that isn't open yet
pub record PicksInNew (key : Key) (s : BoardState) (w : ℕ) : Type 0 where
  pub item : ℕ
  pub place : Place
  pub picked : IsPick key s.marks w item place
  pub opens : is_open (s.marks place) ≡ false

-- the item that is picked for a worker is a compilation
pub record PicksCompilation (key : Key) (s : BoardState) (w : ℕ) : Type 0 where
  pub item : ℕ
  pub place : Place
  pub picked : IsPick key s.marks w item place
  pub firing : Firing
  pub left : List Configured
  pub compiles : task_of (rules key) s.marks (item ∷ place) ≡ Some (Work (words.Compiles firing left))

-- a worker's claim opens a job, or is that of a compilation
pub record MayStarve (b : BoardView) (w : ℕ) : Type 0 where
  pub taken : List Step
  pub at : IsAt b taken
  pub wants : PicksInNew b.key (state_after b.key taken) w ⊎ PicksCompilation b.key (state_after b.key taken) w
