-- What the lock of a board lends to the workers.
use Rattle.std.specs.Prelude.{◌≡◌, ℕ, Some, [], ◌∷◌}
use Rattle.kernel_gate.specs.Value.{Places}
use Rattle.nested_jobs.specs.Rules.{Place}
use Rattle.one_job.specs.Leased.{HasCell, Port}
use Rattle.board_rules.specs.Entries.{BoardState}
use Rattle.board_rules.specs.Legal.{state_after}
use Rattle.firing_board.specs.Locking.{board_meant}
use Rattle.firing_board.specs.Runs.{IsSound}
use Rattle.firing_board.specs.View.{BoardView}

-- a cell of the firing at this place, by its number in the firing's block, stands in what the lock lends to a number, at a port
-- of the item that the worker runs
pub record IsLentCell (b : BoardView) (s : BoardState) (w : ℕ) (place : Place) (port : Port) (cell : ℕ) : Type 0 where
  pub item : ℕ
  pub runs : s.running w ≡ Some (item ∷ place)
  pub places : Places
  pub lent_so : board_meant.lent b w ≡ places ∷ []
  pub has : HasCell places port cell

-- no cell is lent to two numbers, nor at two ports
abbrev pub CellsAreLentOnce : Type 0
CellsAreLentOnce =
    (b : BoardView) (sound : IsSound b) (w u : ℕ) (place : Place) (one other : Port) (cell : ℕ) →
    IsLentCell b (state_after b.key sound.taken) w place one cell → IsLentCell b (state_after b.key sound.taken) u place other cell → (w ≡ u) × (one ≡ other)
