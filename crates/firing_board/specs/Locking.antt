-- What a lock knows of a board.
use Rattle.std.specs.Prelude.{ℕ, List, [], ◌∷◌, Option, Some, None}
use Rattle.kernel_gate.specs.Value.{Places}
use Rattle.board_lock.specs.Meant.{Meant}
use Rattle.board_rules.specs.Keys.{Key}
use Rattle.board_rules.specs.declared.entry.Entry.{Entry}
use Rattle.board_rules.specs.declared.entry.Entry.TheVariants.{Claim, Finish}
use Rattle.firing_board.specs.View.{BoardView, lent_to}

-- the worker whose step it is
abbrev pub worker_of : Entry → ℕ
worker_of (Claim worker path item) = worker
worker_of (Finish worker) = worker

-- what is lent to a worker with this frame, or with none
abbrev pub places_of : Option Places → List Places
places_of None = []
places_of (Some places) = places ∷ []

-- A board is over once memory was wanted. That a journal has ended is told by the journal itself.
abbrev pub board_meant : Meant BoardView Key Entry Places
board_meant = record {
  key = λ b. b.key;
  journal = λ b. b.journal;
  worker = worker_of;
  lent = λ b n. places_of (lent_to b n);
  over = λ b. b.starved;
}

-- a key, of no board
abbrev pub no_key : Key
no_key = record { graphs = record { version = 0; top = 0; graphs = [] }; signatures = []; delays = []; ins = []; workers = 0 }
