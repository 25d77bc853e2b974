-- What simulated workers hold of a board.
use Rattle.std.specs.Prelude.{◌≡◌, ◌≢◌, ℕ, ◌<◌, ◌^◌, List, [], ◌++◌, Option, Some, None, length, slice_index_or}
use Rattle.kernel_gate.specs.Signed.{unnamed}
use Rattle.kernel_gate.specs.Table.{the_signatures}
use Rattle.kernel_gate.specs.Value.{Places}
use Rattle.job_rules.specs.Words.{Work}
use Rattle.board_lock.specs.Meant.{entries_of}
use Rattle.board_rules.specs.declared.entry.Entry.{Entry}
use Rattle.firing_board.specs.Locking.{worker_of}
use Rattle.firing_board.specs.Runs.{IsIdle, Runs}
use Rattle.firing_board.specs.View.{BoardView, lent_to}
use Rattle.firing_board.specs.declared.claim.Claim.{Claim}
use Rattle.firing_board.specs.declared.claim.Claim.TheVariants as claim
use Rattle.firing_board.specs.declared.claim.Ticket.{Ticket}
use Rattle.worker_crew.specs.Asked.{IsToCompile, IsToCopy, IsToFire}
use Rattle.board_calls.specs.declared.held.Held.{Held}
use Rattle.board_calls.specs.declared.held.Held.TheVariants.{Nothing, Fire, Configure, Copy, Compile}

-- the board's kernels are the library's
abbrev pub HasOurKernels : BoardView → Type 0
HasOurKernels b = b.key.signatures ≡ unnamed the_signatures

-- ---- what a worker holds

-- a worker runs work of which this holds, with this frame or none; the ticket is its own
pub record HasClaimed (b : BoardView) (w : ℕ) (ticket : Ticket) (frame : Option Places) (P : Work → Type 0) : Type 0 where
  pub ticket_is : ticket.worker ≡ w
  pub runs : Runs b w P
  pub lent : lent_to b w ≡ frame

-- a worker holds what it runs, and nothing where it runs nothing
abbrev pub Holds : BoardView → ℕ → Held → Type 0
Holds b w Nothing = IsIdle b w
Holds b w (Fire ticket frame) = HasClaimed b w ticket (Some frame.places) (IsToFire frame b.key)
Holds b w (Configure ticket frame) = HasClaimed b w ticket (Some frame.places) (IsToFire frame b.key)
Holds b w (Copy ticket node frame) = HasClaimed b w ticket (Some frame.places) (IsToCopy node frame b.key)
Holds b w (Compile ticket task) = HasClaimed b w ticket None (IsToCompile task b.key)

-- what a worker gets that claims
abbrev pub held_by : Claim → Held
held_by (claim.Fire ticket frame) = Fire ticket frame
held_by (claim.Configure ticket frame) = Configure ticket frame
held_by (claim.Copy ticket node frame) = Copy ticket node frame
held_by (claim.Compile ticket task) = Compile ticket task
held_by claim.Wait = Nothing
held_by claim.Finished = Nothing
held_by claim.Starved = Nothing

-- the frame of a node that copies has fewer inputs than 32 bits can tell
abbrev pub CopiesFew : Held → Type 0
CopiesFew Nothing = Unit {0}
CopiesFew (Fire ticket frame) = Unit {0}
CopiesFew (Configure ticket frame) = Unit {0}
CopiesFew (Copy ticket node frame) = length frame.inputs < 2 ^ 32
CopiesFew (Compile ticket task) = Unit {0}

-- ---- what all of them hold

-- each worker holds what the list has at its number
abbrev pub AreHeld : BoardView → List Held → Type 0
AreHeld b held = (w : ℕ) → w < b.key.workers → Holds b w (slice_index_or held w Nothing)

-- the list has a place for each worker of the board
pub record IsCrewOf (b : BoardView) (held : List Held) : Type 0 where
  pub kernels : HasOurKernels b
  pub one_each : length held ≡ b.key.workers
  pub all : AreHeld b held

-- ---- steps

-- one worker's steps lead from a board to another, and change no other worker's frame
pub record StepsOf (w : ℕ) (x y : BoardView) : Type 0 where
  pub key : y.key ≡ x.key
  pub more : List Entry
  pub journal : y.journal ≡ x.journal ++ more
  pub others : (v : ℕ) → v ≢ w → entries_of worker_of v more ≡ []
  pub lent : (v : ℕ) → v ≢ w → lent_to y v ≡ lent_to x v

-- after which it runs nothing
abbrev pub GivesBack : ℕ → BoardView → BoardView → Type 0
GivesBack w x y = StepsOf w x y × IsIdle y w
