-- What claims and finishes do to the open jobs, what workers run and the journal, as the board has them.
use Rattle.std.specs.Prelude.{◌≡◌, ℕ, ◌<◌, Bool, true, false, Option, None, length, slice_index_or}
use Rattle.kernel_gate.specs.Value.{Places}
use Rattle.job_rules.specs.Words.{Work}
use Rattle.board_rules.specs.Keys.{Key}
use Rattle.firing_board.specs.Claims.{Claims, EntersAs}
use Rattle.firing_board.specs.Table.View.{firings_of}
use Rattle.firing_board.specs.Finishes.{Finishes}
use Rattle.firing_board.specs.Firings.{FiringsGoOn, LeasesFrame}
use Rattle.firing_board.specs.Invariants.{Keeps, view_with}
use Rattle.firing_board.specs.Runs.{Runs}
use Rattle.firing_board.specs.View.{lent_to}
use Rattle.firing_board.specs.declared.claim.Claim.{Claim}
use Rattle.firing_board.specs.declared.state.Core.{Core}

-- the key stays, and each worker has its place
pub record KeepsKey (old new : Core) : Type 0 where
  pub graphs_are : new.table.graphs ≡ old.table.graphs
  pub workers_are : new.table.workers ≡ old.table.workers
  pub one_each : length new.running.items ≡ length old.running.items
  pub slots_each : length new.rooms.slots.items ≡ length old.rooms.slots.items

-- ---- claims

-- a worker that runs nothing
pub record MayClaim (key : Key) (c : Core) (w : ℕ) : Type 0 where
  pub keeps : Keeps key c false
  pub is_worker : w < key.workers
  pub idle : slice_index_or c.running.items w None ≡ None

pub record ClaimsOn (key : Key) (old : Core) (w : ℕ) (new : Core) (claim : Claim) : Type 0 where
  pub claims : Claims (view_with key old false) (view_with key new false) w claim
  pub enters : EntersAs (view_with key old false) (view_with key new false) w claim
  pub firings : FiringsGoOn (firings_of old.table) (firings_of new.table)
  pub leases : LeasesFrame (view_with key new false) w claim
  pub keeps : Keeps key new false

-- memory was wanted
pub record StarvesOn (key : Key) (old new : Core) : Type 0 where
  pub starves : view_with key new true ≡ record (view_with key old true) { firings = firings_of new.table }
  pub firings : FiringsGoOn (firings_of old.table) (firings_of new.table)
  pub keeps : Keeps key new true

-- ---- finishes

-- a worker runs work of which this holds, and has this frame, or none
pub record MayLeave (key : Key) (c : Core) (starved : Bool) (w : ℕ) (P : Work → Type 0) (frame : Option Places) : Type 0 where
  pub keeps : Keeps key c starved
  pub runs : Runs (view_with key c starved) w P
  pub lent : lent_to (view_with key c starved) w ≡ frame

pub record FinishesOn (key : Key) (old : Core) (starved : Bool) (w : ℕ) (new : Core) (after : Bool) : Type 0 where
  pub finishes : Finishes (view_with key old starved) (view_with key new after) w
  pub firings : FiringsGoOn (firings_of old.table) (firings_of new.table)
  pub keeps : Keeps key new after
  pub stays : starved ≡ true → after ≡ true
