-- How a board ends.
use Rattle.std.specs.Prelude.{◌≡◌, ◌⊎◌, false, true, List, Err}
use Rattle.pisdf_meaning.specs.Run.{IterationEnds, IterationGives}
use Rattle.board_rules.specs.Entries.{Step}
use Rattle.board_rules.specs.Legal.{HasEnded}
use Rattle.firing_board.specs.Runs.{AreAllIdle}
use Rattle.firing_board.specs.View.{BoardView, IsAt}
use Rattle.firing_board.specs.declared.ending.BoardEnd.{BoardEnd}
use Rattle.firing_board.specs.declared.ending.BoardEnd.TheVariants as ends

-- steps were taken after which the journal has ended
pub record HasFinished (b : BoardView) : Type 0 where
  pub taken : List Step
  pub at : IsAt b taken
  pub ended : HasEnded b.key taken

-- the journal has ended, or memory was wanted and no worker runs anything
abbrev pub IsOver : BoardView → Type 0
IsOver b = HasFinished b ⊎ ((b.starved ≡ true) × AreAllIdle b)

-- with what one thread gets of an iteration, or with its refusal; or starved
abbrev pub EndsAs : BoardView → BoardEnd → Type 0
EndsAs b (ends.Done iteration delays journal) = (b.starved ≡ false) × (journal.entries ≡ b.journal) × IterationGives b.key.graphs b.key.ins b.key.delays iteration delays.lists
EndsAs b (ends.Refused refusal journal) = (b.starved ≡ false) × (journal.entries ≡ b.journal) × IterationEnds b.key.graphs b.key.ins b.key.delays (Err refusal)
EndsAs b ends.Starved = b.starved ≡ true
