-- What a worker is handed that claims an item.
use Rattle.std.specs.Prelude.{◌≡◌, ◌≢◌, ◌⊎◌, ℕ, ◌-◌, ◌<◌, List, [], ◌∷◌, ◌++◌, Option, Some, None, length, slice_index_or, slice_set}
use Rattle.nested_jobs.specs.Marks.{Busy}
use Rattle.job_compiler.specs.Compilation.{Compilation}
use Rattle.job_preparing.specs.Handing.{lent_at}
use Rattle.one_job.specs.Leased.{OneOwnerEach}
use Rattle.graph_firing.specs.Calls.{IsHanded, frame_of}
use Rattle.graph_firing.specs.Leases.{LendsItems}
use Rattle.graph_firing.specs.View.{compilation_of, graph_in, left_by}
use Rattle.graph_firing.specs.declared.handed.Handed.{Handed}
use Rattle.graph_firing.specs.declared.handed.Handed.TheVariants as handed
use Rattle.board_rules.specs.Entries.{item_of}
use Rattle.board_rules.specs.declared.entry.Entry.TheVariants as entry
use Rattle.board_rules.specs.declared.entry.ItemName.{ItemName}
use Rattle.board_rules.specs.declared.entry.ItemName.TheVariants as items
use Rattle.board_journal.specs.View.{JournalView, path_at}
use Rattle.firing_board.specs.Table.Calls.{LendsAsBefore, LendsItem, MarksItem}
use Rattle.firing_board.specs.Table.View.{row_at}
use Rattle.firing_board.specs.declared.table.row.Row.{Row}
use Rattle.firing_board.specs.declared.claim.Claim.{Claim}
use Rattle.firing_board.specs.declared.claim.Claim.TheVariants as claim
use Rattle.firing_board.specs.declared.claim.Ticket.{Ticket}
use Rattle.firing_board.specs.declared.state.Core.{Core}
use Rattle.firing_board.specs.declared.run.Run.{Run}

-- what a job hands out, with a ticket
abbrev pub claim_of : Ticket → Handed → Claim
claim_of ticket (handed.Configure frame) = claim.Configure ticket frame
claim_of ticket (handed.Fire frame) = claim.Fire ticket frame
claim_of ticket (handed.Copy node frame) = claim.Copy ticket node frame

-- the path of a row
abbrev pub path_in : Core → ℕ → List ℕ
path_in c k = path_at c.journal.paths (slice_index_or c.numbers.items k 0)

-- the journal with the claim of an item in the job of this path
abbrev pub with_claim : JournalView → ℕ → List ℕ → ItemName → JournalView
with_claim j w path item = record j { entries = j.entries ++ entry.Claim w path item ∷ []; room = j.room - 1 }

-- the claim is entered, and the worker runs the item
pub record Enters (old : Core) (w : ℕ) (run : Run) (item : ItemName) (ticket : Ticket) (new : Core) : Type 0 where
  pub ticket_is : ticket ≡ record { worker = w; entry = length old.journal.entries }
  pub table_is : new.table ≡ old.table
  pub running_are : new.running.items ≡ slice_set old.running.items w (Some run)
  pub numbers_are : new.numbers ≡ old.numbers
  pub journal_is : new.journal ≡ with_claim old.journal w (path_in old run.row) item
  pub rooms_are : new.rooms ≡ old.rooms
  pub end_is : new.end ≡ old.end

-- the claim of a worker can be entered, which runs nothing
pub record MayEnter (c : Core) (w : ℕ) (run : Run) : Type 0 where
  pub is_worker : w < length c.running.items
  pub idle : slice_index_or c.running.items w None ≡ None
  pub known : slice_index_or c.numbers.items run.row 0 < length c.journal.paths

-- a frame is handed out with an item, whose claim is entered
pub record HandsFrame (old : Core) (w : ℕ) (run : Run) (item : ItemName) (new : Core) (result : Claim) : Type 0 where
  pub row : Row
  pub here : row_at old.table run.row ≡ Some row
  pub handed : Handed
  pub handed_so : IsHanded row.job run.item handed
  pub framed : run.item ≢ compilation_of row.job
  pub claimed : Core
  pub marks : MarksItem run.row run.item Busy old.table claimed.table
  pub lends : LendsItem run.row run.item (Some (frame_of handed).places) old.table claimed.table
  -- what the job lends then
  pub leases : LendsItems marks.after.job
  pub owners : OneOwnerEach (lent_at marks.after.job.lent)
  pub running_is : claimed.running ≡ old.running
  pub numbers_are : claimed.numbers ≡ old.numbers
  pub journal_is : claimed.journal ≡ old.journal
  pub end_is : claimed.end ≡ old.end
  pub ticket : Ticket
  pub enters : Enters claimed w run item ticket new
  pub result_is : result ≡ claim_of ticket handed

-- a compilation is handed out, whose claim is entered
pub record HandsCompilation (old : Core) (w : ℕ) (run : Run) (new : Core) (result : Claim) : Type 0 where
  pub row : Row
  pub here : row_at old.table run.row ≡ Some row
  pub kept : Option Compilation
  pub claimed : Core
  pub marks : MarksItem run.row (compilation_of row.job) Busy old.table claimed.table
  pub lends : LendsAsBefore old.table claimed.table
  pub running_is : claimed.running ≡ old.running
  pub numbers_are : claimed.numbers ≡ old.numbers
  pub journal_is : claimed.journal ≡ old.journal
  pub end_is : claimed.end ≡ old.end
  pub ticket : Ticket
  pub enters : Enters claimed w run items.Compile ticket new
  pub result_is : result ≡ claim.Compile ticket record { graphs = row.job.graphs; workers = row.job.workers; firing = row.job.firing; left = left_by row.job; kept = kept }

-- a frame or a compilation is handed out
pub record HandsOut (old : Core) (w : ℕ) (run : Run) (new : Core) (result : Claim) : Type 0 where
  pub row : Row
  pub here : row_at old.table run.row ≡ Some row
  pub handed : HandsFrame old w run (item_of (graph_in row.job) run.item) new result ⊎ ((run.item ≡ compilation_of row.job) × HandsCompilation old w run new result)
