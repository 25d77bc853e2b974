-- What a worker that has asked for an item may do with it.
use Rattle.std.specs.Prelude.{◌≡◌, ◌<◌, true, List, [], Option, Some, None, length, slice_index_or}
use Rattle.kernel_gate.specs.Signed.{IsFrameOf}
use Rattle.kernel_gate.specs.Value.{FrameView, Places}
use Rattle.special_actors.specs.Fitting as special
use Rattle.sdf_level.specs.declared.node.Node.{Node}
use Rattle.job_preparing.specs.CompileTasks.{CompileView}
use Rattle.job_preparing.specs.Handing.{AsksFor, CopiesIn}
use Rattle.job_rules.specs.Words.{Compiles, Copies, Fires, Work}
use Rattle.board_rules.specs.Entries.{Step}
use Rattle.board_rules.specs.declared.entry.Entry.{Entry}
use Rattle.board_rules.specs.Keys.{IsKey, Key}
use Rattle.board_rules.specs.Legal.{AreLegal, journal_of, state_after}
use Rattle.firing_board.specs.Locking.{places_of}
use Rattle.firing_board.specs.Runs.{RunsWork}
use Rattle.firing_board.specs.declared.claim.Claim.{Claim}
use Rattle.firing_board.specs.declared.claim.Claim.TheVariants as claim
use Rattle.worker_crew.specs.Passes.{BoardPass, HasSeenEnd}
use Rattle.worker_crew.specs.Worked.{AddsClaim, HasAdded, HasWorked}

-- in the journal that the pass has seen, its number runs work of which this holds, and has this frame, or none
pub record HasClaimed (p : BoardPass) (frame : Option Places) (P : Key → Work → Type 0) : Type 0 where
  pub key : Key
  pub key_is : p.key ≡ Some key
  pub is_key : IsKey key
  pub some : 0 < length p.own
  pub is_worker : p.number < key.workers
  pub taken : List Step
  pub legal : AreLegal key taken
  pub seen_is : p.seen ≡ journal_of key taken
  pub work : Work
  pub runs : RunsWork key (state_after key taken) p.number work
  pub lent : slice_index_or p.lent 0 [] ≡ places_of frame
  pub so : P key work

-- a kernel fires that is asked what stands in the frame
abbrev pub IsToFire : FrameView → Key → Work → Type 0
IsToFire frame key (Fires spot asked) = AsksFor asked frame × IsFrameOf key.signatures frame
IsToFire frame key (Copies node read lens) = ⊥
IsToFire frame key (Compiles firing left) = ⊥

-- the node copies what stands in the frame
abbrev pub IsToCopy : Node → FrameView → Key → Work → Type 0
IsToCopy node frame key (Fires spot asked) = ⊥
IsToCopy node frame key (Copies copier read lens) = (copier ≡ node) × CopiesIn read lens frame × special.IsFrameOf node frame
IsToCopy node frame key (Compiles firing left) = ⊥

-- the task compiles the firing
abbrev pub IsToCompile : CompileView → Key → Work → Type 0
IsToCompile task key (Fires spot asked) = ⊥
IsToCompile task key (Copies node read lens) = ⊥
IsToCompile task key (Compiles firing left) = (task.graphs ≡ key.graphs) × (task.workers ≡ key.workers) × (task.firing ≡ firing) × (task.left ≡ left)

-- a pass that knew this and asked knows this then, where it got this; the ticket is of its number
abbrev pub Asked : BoardPass → BoardPass → Claim → Type 0
Asked p q (claim.Fire ticket frame) = (ticket.worker ≡ q.number) × AddsClaim p q × HasClaimed q (Some frame.places) (IsToFire frame)
Asked p q (claim.Configure ticket frame) = (ticket.worker ≡ q.number) × AddsClaim p q × HasClaimed q (Some frame.places) (IsToFire frame)
Asked p q (claim.Copy ticket node frame) = (ticket.worker ≡ q.number) × AddsClaim p q × HasClaimed q (Some frame.places) (IsToCopy node frame)
Asked p q (claim.Compile ticket task) = (ticket.worker ≡ q.number) × AddsClaim p q × HasClaimed q None (IsToCompile task)
Asked p q claim.Wait = HasAdded p q []
Asked p q claim.Finished = HasAdded p q [] × HasSeenEnd q
Asked p q claim.Starved = HasAdded p q [] × (q.over ≡ true)

-- a pass that knew this has added claims, each with its finish, and then this was claimed for its number, or nothing was
pub record HasAsked (p q : BoardPass) (c : Claim) : Type 0 where
  pub between : BoardPass
  pub worked : HasWorked p between
  pub asked : Asked between q c

-- a pass that knew this has added these entries, and then so
pub record AskedAfter (p : BoardPass) (more : List Entry) (q : BoardPass) (c : Claim) : Type 0 where
  pub after : BoardPass
  pub added : HasAdded p after more
  pub asked : HasAsked after q c
