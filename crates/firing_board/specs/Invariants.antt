-- The fields of a board.
use Rattle.std.specs.Prelude.{◌≡◌, ◌≤◌, Bool, true, false, List, is_some, length}
use Rattle.kernel_gate.specs.Signed.{Counts}
use Rattle.pisdf_meaning.specs.declared.firing.Firing.{Firing}
use Rattle.board_rules.specs.Entries.{Step}
use Rattle.board_rules.specs.Keys.{IsKey, Key}
use Rattle.firing_board.specs.Table.View.{firings_of}
use Rattle.firing_board.specs.Core.{HasMemory, IsLentToRunners, RowsHaveOwners, StandsAt, lent_of, runners}
use Rattle.firing_board.specs.Keeping.{AreKeptLevelsOf}
use Rattle.firing_board.specs.Starved.{StarvesAt}
use Rattle.firing_board.specs.View.{BoardView}
use Rattle.firing_board.specs.Signatures.{counts_by}
use Rattle.firing_board.specs.declared.board.Board.TheInside.{Inside}
use Rattle.firing_board.specs.declared.state.Core.{Core}

abbrev pub key_with : List Counts → Firing → Core → Key
key_with signatures top c = record { graphs = c.table.graphs; signatures = signatures; delays = top.state; ins = top.inputs; workers = c.table.workers }

abbrev pub view_with : Key → Core → Bool → BoardView
view_with key c starved = record { key = key; journal = c.journal.entries; starved = starved; firings = firings_of c.table; lent = lent_of c.table c.running.items; kept = false }

abbrev pub key_of : Inside → Key
key_of i = key_with (counts_by i.signatures) i.top.value i.core

abbrev pub view_of : Inside → BoardView
view_of i = record (view_with (key_of i) i.core i.starved) { kept = is_some i.keeping.kept }

-- the open jobs, and what workers run of them, stand where steps were taken; where memory was wanted, what workers run does
abbrev pub StandsOrStarves : Bool → Key → List Step → Core → Type 0
StandsOrStarves false key taken c = StandsAt key taken c
StandsOrStarves true key taken c = StarvesAt key taken c

pub record Keeps (key : Key) (c : Core) (starved : Bool) : Type 0 where
  pub is_key : IsKey key
  pub one_each : length c.running.items ≡ key.workers
  pub lent : IsLentToRunners c.table c.running.items
  pub owners : RowsHaveOwners c.table
  -- each finish of what runs has its room
  pub room : runners c.running.items ≤ c.journal.room
  pub taken : List Step
  pub at : StandsOrStarves starved key taken c

-- unless memory was wanted, each entry that may come and each frame has its room
abbrev pub HasMemoryUnless : Bool → Core → Type 0
HasMemoryUnless false c = HasMemory c
HasMemoryUnless true c = Unit {0}

abbrev pub IsBoard : Inside → Type 0
IsBoard i = Keeps (key_of i) i.core i.starved × AreKeptLevelsOf i.core.table.graphs i.keeping.levels × HasMemoryUnless i.starved i.core × (length i.core.rooms.slots.items ≡ length i.core.running.items)
