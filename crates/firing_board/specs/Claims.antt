-- What a claim does.
use Rattle.std.specs.Prelude.{◌≡◌, ℕ, ℤ, true, false, List, [], ◌∷◌, ◌++◌, Option, Some, None, length, slice_set}
use Rattle.kernel_gate.specs.Value.{Places}
use Rattle.nested_jobs.specs.Journals as steps
use Rattle.nested_jobs.specs.Rules.{Place}
use Rattle.job_preparing.specs.Handing.{AsksFor, CopiesIn}
use Rattle.job_rules.specs.Words.{Asked, Compiles, Copies, Fires, Spot, Work}
use Rattle.board_rules.specs.Entries.{Step}
use Rattle.board_rules.specs.Laws.{HasToWait}
use Rattle.board_rules.specs.Legal.{HasEnded, state_after}
use Rattle.board_rules.specs.Picks.{IsPick}
use Rattle.board_rules.specs.declared.entry.Entry.{Entry}
use Rattle.board_rules.specs.declared.entry.Entry.TheVariants as entry
use Rattle.board_rules.specs.declared.entry.ItemName.{ItemName}
use Rattle.board_rules.specs.declared.entry.ItemName.TheVariants as items
use Rattle.firing_board.specs.Runs.{RunsWork}
use Rattle.firing_board.specs.View.{BoardView, IsAt}
use Rattle.firing_board.specs.declared.claim.Claim.{Claim}
use Rattle.firing_board.specs.declared.claim.Claim.TheVariants as claim
use Rattle.firing_board.specs.declared.claim.Ticket.{Ticket}

-- a worker claims the item that is picked for it, whose task is this work, and has a frame there or none
pub record Picks (old new : BoardView) (w : ℕ) (work : Work) (frame : Option Places) : Type 0 where
  pub taken : List Step
  pub before : IsAt old taken
  pub item : ℕ
  pub place : Place
  pub picked : IsPick old.key (state_after old.key taken).marks w item place
  pub after : IsAt new (taken ++ steps.Claim w (item ∷ place) ∷ [])
  pub runs : RunsWork old.key (state_after old.key (taken ++ steps.Claim w (item ∷ place) ∷ [])) w work
  pub live : old.starved ≡ false
  pub new_is : new ≡ record old { journal = new.journal; firings = new.firings; lent = slice_set old.lent w frame }

-- a ticket of this worker and of the entry that comes after these
abbrev pub IsTicket : BoardView → ℕ → Ticket → Type 0
IsTicket old w ticket = ticket ≡ record { worker = w; entry = length old.journal }

-- steps were taken after which this holds, and nothing changes
pub record Stays (old new : BoardView) (P : List Step → Type 0) : Type 0 where
  pub taken : List Step
  pub at : IsAt old taken
  pub so : P taken
  pub live : old.starved ≡ false
  pub new_is : new ≡ old

-- what a worker gets that claims: the frame of a kernel with what the kernel is asked, of a node or of a configuration actor; a
-- node that copies its inputs, and its frame; a compilation; or nothing, where it has to wait, where the journal has ended, or
-- where memory was wanted
abbrev pub Claims : BoardView → BoardView → ℕ → Claim → Type 0
Claims old new w (claim.Fire ticket frame) = IsTicket old w ticket × (spot : Spot) × (asked : Asked) × AsksFor asked frame × Picks old new w (Fires spot asked) (Some frame.places)
Claims old new w (claim.Configure ticket frame) = IsTicket old w ticket × (spot : Spot) × (asked : Asked) × AsksFor asked frame × Picks old new w (Fires spot asked) (Some frame.places)
Claims old new w (claim.Copy ticket node frame) =
    IsTicket old w ticket × (read : List (List ℤ)) × (lens : List ℕ) × CopiesIn read lens frame × Picks old new w (Copies node read lens) (Some frame.places)
Claims old new w (claim.Compile ticket task) =
    IsTicket old w ticket × (task.graphs ≡ old.key.graphs) × (task.workers ≡ old.key.workers) × Picks old new w (Compiles task.firing task.left) None
Claims old new w claim.Wait = Stays old new (λ taken. HasToWait old.key (state_after old.key taken))
Claims old new w claim.Finished = Stays old new (HasEnded old.key)
Claims old new w claim.Starved = new ≡ record old { starved = true; firings = new.firings }

-- ---- what is entered

-- the claim of this item is entered, in the job of some path
pub record EntersItem (old new : List Entry) (w : ℕ) (item : ItemName) : Type 0 where
  pub path : List ℕ
  pub entered : new ≡ old ++ entry.Claim w path item ∷ []

-- what is to be configured is a configuration actor, what is to be fired or copied is a node, and what is to be compiled the
-- compilation
abbrev pub EntersAs : BoardView → BoardView → ℕ → Claim → Type 0
EntersAs old new w (claim.Fire ticket frame) = (number : ℕ) × EntersItem old.journal new.journal w (items.Node number)
EntersAs old new w (claim.Configure ticket frame) = (place : ℕ) × EntersItem old.journal new.journal w (items.Configure place)
EntersAs old new w (claim.Copy ticket node frame) = (number : ℕ) × EntersItem old.journal new.journal w (items.Node number)
EntersAs old new w (claim.Compile ticket task) = EntersItem old.journal new.journal w items.Compile
EntersAs old new w claim.Wait = new.journal ≡ old.journal
EntersAs old new w claim.Finished = new.journal ≡ old.journal
EntersAs old new w claim.Starved = new.journal ≡ old.journal
