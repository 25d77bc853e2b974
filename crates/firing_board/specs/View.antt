-- A board as plain data, and the steps that were taken on it.
use Rattle.std.specs.Prelude.{◌≡◌, ℕ, Bool, List, Option, None, slice_index_or}
use Rattle.kernel_gate.specs.Value.{Places}
use Rattle.board_rules.specs.Entries.{Step}
use Rattle.board_rules.specs.Keys.{Key}
use Rattle.board_rules.specs.Legal.{AreLegal, journal_of}
use Rattle.board_rules.specs.declared.entry.Entry.{Entry}
use Rattle.firing_board.specs.Table.View.{FiringView}

-- what a board was started with, its journal, whether memory was wanted, the open firings by their keys, for each worker where
-- the leases of the frame lie that it has, and whether compilations are in it that are kept from one board to the next
pub record BoardView : Type 0 where
  pub key : Key
  pub journal : List Entry
  pub starved : Bool
  pub firings : List (Option FiringView)
  pub lent : List (Option Places)
  pub kept : Bool

-- these steps were taken: they are legal, and the journal is theirs
pub record IsAt (b : BoardView) (taken : List Step) : Type 0 where
  pub legal : AreLegal b.key taken
  pub entered : b.journal ≡ journal_of b.key taken

-- where the leases of a worker's frame lie
abbrev pub lent_to : BoardView → ℕ → Option Places
lent_to b w = slice_index_or b.lent w None
