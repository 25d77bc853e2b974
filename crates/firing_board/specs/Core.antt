-- The open jobs of a board, what each worker runs of them, and how both stand where steps were taken.
use Rattle.std.specs.Prelude.{◌≡◌, ℕ, suc, ◌+◌, ◌*◌, ◌<◌, ◌≤◌, true, List, [], ◌∷◌, Option, Some, None, Result, length, map, slice_index_or}
use Rattle.std.specs.Option.{option_map}
use Rattle.graph_firing.specs.Rooms.{is_node}
use Rattle.kernel_gate.specs.Rooms.{Suffices}
use Rattle.kernel_gate.specs.Value.{Places}
use Rattle.kernel_gate.specs.declared.room.RoomSize.{RoomSize}
use Rattle.nested_jobs.specs.Marks.{Done, Mark}
use Rattle.job_preparing.specs.Handing.{end_of}
use Rattle.job_preparing.specs.declared.handing.JobGiven.{JobGiven}
use Rattle.job_rules.specs.Words.{Answer, answer_of}
use Rattle.one_job.specs.Leased.{OneOwnerEach}
use Rattle.pisdf_meaning.specs.declared.firing.Firing.{Firing}
use Rattle.pisdf_meaning.specs.declared.refusal.Refusal.{Refusal}
use Rattle.board_rules.specs.Board.{Held, KeptAs}
use Rattle.board_rules.specs.Entries.{Step}
use Rattle.board_rules.specs.Keys.{Key}
use Rattle.board_rules.specs.Legal.{journal_of, state_after}
use Rattle.board_journal.specs.View.{path_at}
use Rattle.firing_board.specs.FrameRooms.{IsWithin, slot_at}
use Rattle.firing_board.specs.Table.Calls.{StaysAs}
use Rattle.firing_board.specs.Table.Suits.{Suits}
use Rattle.firing_board.specs.Table.View.{TableView, free_items, lent_in, room_in, row_at, table_of}
use Rattle.firing_board.specs.declared.table.row.Row.{Row}
use Rattle.firing_board.specs.declared.state.Core.{Core}
use Rattle.firing_board.specs.declared.run.Run.{Run}

-- ---- what workers run

-- the key of a job's row, and the number of its item
abbrev pub held_of : List (Option Run) → Held
held_of running w = option_map (λ (run : Run). (run.row, run.item)) (slice_index_or running w None)

-- how many workers run something
abbrev pub runners : List (Option Run) → ℕ
runners [] = 0
runners (None ∷ running) = runners running
runners (Some run ∷ running) = suc (runners running)

-- ---- what is lent

-- where the leases lie that are out with what a worker runs
abbrev pub lent_with : TableView → Option Run → Option Places
lent_with table None = None
lent_with table (Some run) = lent_in table run.row run.item

abbrev pub lent_of : TableView → List (Option Run) → List (Option Places)
lent_of table running = map (lent_with table) running

-- nothing else is lent
abbrev pub IsLentToRunners : TableView → List (Option Run) → Type 0
IsLentToRunners table running =
    (k i : ℕ) (places : Places) → lent_in table k i ≡ Some places → (w : ℕ) × (held_of running w ≡ Some (k, i))

-- of what is lent, no cell of a row's job has two owners, and no two rows that lend have one place
pub record RowsHaveOwners (table : TableView) : Type 0 where
  pub each : (k : ℕ) → OneOwnerEach (lent_in table k)
  pub apart : (k l i j : ℕ) (p q : Places) (one other : Row) → lent_in table k i ≡ Some p → lent_in table l j ≡ Some q → row_at table k ≡ Some one → row_at table l ≡ Some other → one.place ≡ other.place → k ≡ l

-- ---- rows that go on

-- each row that was there, and is there still
abbrev pub RowsGoOn : (old new : TableView) → Type 0
RowsGoOn old new = (k : ℕ) (before after : Row) → row_at old k ≡ Some before → row_at new k ≡ Some after → StaysAs before after

-- each row that was there is there still
abbrev pub RowsLast : (old new : TableView) → Type 0
RowsLast old new = (k : ℕ) (before : Row) → row_at old k ≡ Some before → (after : Row) × (row_at new k ≡ Some after) × StaysAs before after

-- ---- paths

-- the journal has this path, by the number that is kept for a row, or 0
pub record IsNumbered (numbers : List ℕ) (paths : List (List ℕ)) (k : ℕ) (path : List ℕ) : Type 0 where
  pub known : slice_index_or numbers k 0 < length paths
  pub path_is : path_at paths (slice_index_or numbers k 0) ≡ path

-- so it has that of each open job
abbrev pub AreNumbered : TableView → List ℕ → List (List ℕ) → Type 0
AreNumbered table numbers paths = (k : ℕ) (row : Row) → row_at table k ≡ Some row → IsNumbered numbers paths k row.job.firing.path

-- ---- room in the journal

-- how many entries may come: the finish of what each worker runs, and the claim and the finish of each item that is free
abbrev pub entries_to_come : Core → ℕ
entries_to_come c = runners c.running.items + 2 * free_items c.table

-- the journal has room for them
abbrev pub HasJournalRoom : Core → Type 0
HasJournalRoom c = entries_to_come c ≤ c.journal.room

-- ---- rooms for frames

-- what a worker runs is a node
abbrev pub RunsNode : TableView → Run → Type 0
RunsNode table run = (row : Row) → row_at table run.row ≡ Some row → is_node row.job run.item ≡ true

-- it is a node, and its frame is out, made in a room of at least this size
pub record IsOut (size : RoomSize) (table : TableView) (run : Run) : Type 0 where
  pub places : Places
  pub lent : lent_in table run.row run.item ≡ Some places
  pub enough : Suffices size places.room
  pub node : RunsNode table run

abbrev pub OutWith : RoomSize → TableView → Option Run → Type 0
OutWith size table None = ⊥
OutWith size table (Some run) = IsOut size table run

-- a worker that runs this has a room of at least this size: in its slot, or else out with the frame of the node that it runs
abbrev pub HoldsRoom : RoomSize → TableView → Option Run → (slot : Option RoomSize) → Type 0
HoldsRoom size table run None = OutWith size table run
HoldsRoom size table run (Some room) = Suffices size room

-- the rooms of workers suffice for the frame of any node of an open job; while no job has nodes, none has to be there
pub record HasFrameRooms (c : Core) : Type 0 where
  pub one_each : length c.rooms.slots.items ≡ length c.running.items
  pub needs : (k : ℕ) (need : RoomSize) → room_in c.table k ≡ Some need → IsWithin need c.rooms.size
  pub each : (w : ℕ) (size : RoomSize) → w < length c.running.items → c.rooms.size ≡ Some size → HoldsRoom size c.table (slice_index_or c.running.items w None) (slot_at c.rooms.slots.items w)

-- the memory that was taken for what is to come: in the journal for its entries, and rooms for the frames of nodes
pub record HasMemory (c : Core) : Type 0 where
  pub in_journal : HasJournalRoom c
  pub for_frames : HasFrameRooms c

-- ---- the end

-- the top job ended so
abbrev pub IsEndFor : Answer → Option (Result JobGiven Refusal) → Type 0
IsEndFor answer None = ⊥
IsEndFor answer (Some end) = answer ≡ answer_of (end_of end)

-- where the top job is done its end is there
abbrev pub HasEnd : Mark Firing Answer → Option (Result JobGiven Refusal) → Type 0
HasEnd mark end = (answer : Answer) → mark ≡ Done answer → IsEndFor answer end

-- ---- in all

-- where these steps were taken
pub record StandsAt (key : Key) (taken : List Step) (c : Core) : Type 0 where
  pub kept : KeptAs key taken (table_of c.table) (held_of c.running.items)
  pub suits : Suits key (state_after key taken).marks c.table
  pub entered : c.journal.entries ≡ journal_of key taken
  pub numbered : AreNumbered c.table c.numbers.items c.journal.paths
  pub has_end : HasEnd ((state_after key taken).marks []) c.end
