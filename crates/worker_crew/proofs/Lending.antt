-- Cells that the lock lends have one owner.
use Rattle.std.proofs.Common.{◌≡◌, ℕ, Option, None, Some, [], ◌∷◌}
use Rattle.kernel_gate.specs.Value.{Places}
use Rattle.nested_jobs.specs.Rules.{Place}
use Rattle.one_job.specs.Leased.{Port}
use Rattle.board_rules.specs.Entries.{BoardState}
use Rattle.firing_board.specs.Firings.{OwnsCell}
use Rattle.firing_board.specs.Locking.{places_of}
use Rattle.firing_board.specs.View.{BoardView, lent_to}
use Rattle.worker_crew.specs.Lent.{CellsAreLentOnce, IsLentCell}

one_frame : (lent : Option Places) (places : Places) → places_of lent ≡ places ∷ [] → lent ≡ Some places
one_frame None places is = absurd (cc)
one_frame (Some found) places is = cc

owns : (b : BoardView) (s : BoardState) (w : ℕ) (place : Place) (port : Port) (cell : ℕ) → IsLentCell b s w place port cell → OwnsCell s b.lent w place port cell
owns b s w place port cell is = record { item = is.item; runs = is.runs; places = is.places; lent_so = one_frame (lent_to b w) is.places is.lent_so; has = is.has }

pub lent_once : CellsAreLentOnce
lent_once b sound w u place one other cell here there =
    sound.owners w u place one other cell (owns b _ w place one cell here) (owns b _ u place other cell there)
