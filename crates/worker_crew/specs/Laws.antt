-- What the journal of a board tells of its workers.
use Rattle.std.specs.Prelude.{◌≡◌, ℕ, false, ◌<◌, ◌^◌, List, [], ◌∷◌, ◌++◌, length, is_some}
use Rattle.kernel_gate.specs.Signed.{Counts}
use Rattle.kernel_gate.specs.Value.{lengths}
use Rattle.special_actors.specs.Fitting.{HasLengths}
use Rattle.pisdf_meaning.specs.declared.firing.Configured.{Configured}
use Rattle.pisdf_meaning.specs.declared.firing.Firing.{Firing}
use Rattle.nested_jobs.specs.Journals as steps
use Rattle.nested_jobs.specs.Rules.{Place}
use Rattle.job_rules.specs.Doing.{Answers}
use Rattle.job_rules.specs.Fitting.{FitsAsked}
use Rattle.job_rules.specs.Words.{Answer, Compiles, Copies, Fires, Work}
use Rattle.board_lock.specs.Meant.{entries_of}
use Rattle.board_rules.specs.Entries.{Step}
use Rattle.board_rules.specs.Keys.{IsKey, Key}
use Rattle.board_rules.specs.Legal.{AreLegal, HasEnded, journal_of, state_after}
use Rattle.board_rules.specs.declared.entry.Entry.{Entry}
use Rattle.board_rules.specs.declared.entry.Entry.TheVariants.{Claim, Finish}
use Rattle.board_rules.specs.declared.entry.ItemName.{ItemName}
use Rattle.firing_board.specs.Locking.{worker_of}
use Rattle.firing_board.specs.Runs.{RunsWork}
use Rattle.worker_crew.specs.Passes.{last_claims}

-- a worker runs something exactly where the last of its entries is a claim
abbrev pub EntriesTellRunning : Key → Type 0
EntriesTellRunning key =
    (taken : List Step) (w : ℕ) → AreLegal key taken →
    last_claims false (entries_of worker_of w (journal_of key taken)) ≡ is_some ((state_after key taken).running w)

-- what a worker runs in a journal it still runs, and it is the same work, in a longer one that has no further entry of it
abbrev pub WorkLasts : Key → Type 0
WorkLasts key =
    (taken later : List Step) (more : List Entry) (w : ℕ) (work : Work) → AreLegal key taken → AreLegal key later →
    journal_of key later ≡ journal_of key taken ++ more → entries_of worker_of w more ≡ [] →
    RunsWork key (state_after key taken) w work → RunsWork key (state_after key later) w work

-- no legal journal begins with one that has ended, and goes on
abbrev pub EndsLast : Key → Type 0
EndsLast key =
    (taken later : List Step) (more : List Entry) → AreLegal key taken → AreLegal key later →
    journal_of key later ≡ journal_of key taken ++ more → HasEnded key taken → more ≡ []

-- a claim and a finish each have one entry
abbrev pub ClaimsAreEntered : Key → Type 0
ClaimsAreEntered key =
    (taken : List Step) (w : ℕ) (a : Place) → AreLegal key taken → AreLegal key (taken ++ steps.Claim w a ∷ []) →
    (path : List ℕ) × (item : ItemName) × (journal_of key (taken ++ steps.Claim w a ∷ []) ≡ journal_of key taken ++ Claim w path item ∷ [])

abbrev pub FinishesAreEntered : Key → Type 0
FinishesAreEntered key = (taken : List Step) (w : ℕ) (answer : Answer) → journal_of key (taken ++ steps.Finish w answer ∷ []) ≡ journal_of key taken ++ Finish w ∷ []

pub record BoardLaws (key : Key) : Type 0 where
  pub told : EntriesTellRunning key
  pub lasts : WorkLasts key
  pub ends : EndsLast key
  pub claims : ClaimsAreEntered key
  pub finishes : FinishesAreEntered key

abbrev pub BoardsHaveLaws : Type 0
BoardsHaveLaws = (key : Key) → IsKey key → BoardLaws key

-- a compilation that a worker runs has an answer
abbrev pub CompilationsEnd : Type 0
CompilationsEnd =
    (key : Key) (taken : List Step) (w : ℕ) (firing : Firing) (left : List Configured) → IsKey key → AreLegal key taken →
    RunsWork key (state_after key taken) w (Compiles firing left) → (answer : Answer) × Answers key.graphs.graphs (Compiles firing left) answer

-- a frame with what such work asks can be run: it fits the kernel's signature, or is one of the node, with a number of 32 bits
-- for each port
abbrev pub IsFitWork : List Counts → Work → Type 0
IsFitWork signatures (Fires spot asked) = FitsAsked signatures asked
IsFitWork signatures (Copies node read lens) = HasLengths node (lengths read) lens × (length read < 2 ^ 32) × (length lens < 2 ^ 32)
IsFitWork signatures (Compiles firing left) = Unit {0}

-- so can what a worker runs
abbrev pub WorkFits : Type 0
WorkFits = (key : Key) (taken : List Step) (w : ℕ) (work : Work) → IsKey key → AreLegal key taken → RunsWork key (state_after key taken) w work → IsFitWork key.signatures work
