-- What a pass of a lock round a board tells.
use Rattle.std.specs.Prelude.{◌≡◌, ◌⊎◌, ℕ, ◌+◌, ◌<◌, ◌≤◌, Bool, true, false, Some, List, [], ◌∷◌, ◌++◌, length, slice_index_or}
use Rattle.kernel_gate.specs.Signed.{Counts}
use Rattle.kernel_gate.specs.Value.{Places}
use Rattle.board_lock.specs.Meant.{entries_of}
use Rattle.board_lock.specs.declared.view.Known.{Known}
use Rattle.board_rules.specs.Entries.{Step}
use Rattle.board_rules.specs.Keys.{Key}
use Rattle.board_rules.specs.Legal.{AreLegal, HasEnded, journal_of}
use Rattle.board_rules.specs.declared.entry.Entry.{Entry}
use Rattle.board_rules.specs.declared.entry.Entry.TheVariants.{Claim, Finish}
use Rattle.firing_board.specs.Locking.{worker_of}

abbrev pub BoardPass : Type 0
BoardPass = Known Key Entry Places

-- ---- who may work

-- the board's kernels are these, and the pass has a number, which is below the number of workers
pub record MayWork (kernels : List Counts) (p : BoardPass) : Type 0 where
  pub key : Key
  pub key_is : p.key ≡ Some key
  pub kernels_are : key.signatures ≡ kernels
  pub some : 0 < length p.own
  pub is_worker : p.number < key.workers

-- so are all its numbers
pub record AllMayWork (kernels : List Counts) (p : BoardPass) : Type 0 where
  pub key : Key
  pub key_is : p.key ≡ Some key
  pub kernels_are : key.signatures ≡ kernels
  pub some : 0 < length p.own
  pub are_workers : p.number + length p.own ≤ key.workers

-- ---- which run nothing

-- whether the last of these entries is a claim; this, where there are none
abbrev pub last_claims : Bool → List Entry → Bool
last_claims before [] = before
last_claims before (Claim worker path item ∷ entries) = last_claims true entries
last_claims before (Finish worker ∷ entries) = last_claims false entries

-- the entries of a number in the opening journal, and after them its own
abbrev pub entries_at : BoardPass → ℕ → List Entry
entries_at p k = entries_of worker_of (p.number + k) p.opening ++ slice_index_or p.own k []

-- the last of them, if there is one, is a finish
abbrev pub IsIdleAt : BoardPass → ℕ → Type 0
IsIdleAt p k = last_claims false (entries_at p k) ≡ false

abbrev pub AreIdle : BoardPass → Type 0
AreIdle p = (k : ℕ) → k < length p.own → IsIdleAt p k

-- ---- the end

-- the journal that the pass has seen is legal and has ended
pub record HasSeenEnd (p : BoardPass) : Type 0 where
  pub key : Key
  pub key_is : p.key ≡ Some key
  pub taken : List Step
  pub legal : AreLegal key taken
  pub seen_is : p.seen ≡ journal_of key taken
  pub ended : HasEnded key taken

-- the pass has seen that memory was wanted, or that the journal has ended
abbrev pub HasSeenOver : BoardPass → Type 0
HasSeenOver p = (p.over ≡ true) ⊎ HasSeenEnd p
