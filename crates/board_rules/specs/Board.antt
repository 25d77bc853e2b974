-- What code keeps of a board: a table of the open jobs, and what each worker runs.
use Rattle.std.specs.Prelude.{◌≡◌, ◌≢◌, ℕ, ◌==◌, ◌<◌, Option, Some, None, List, [], ◌∷◌, ◌++◌, if◌then◌else◌}
use Rattle.pisdf_meaning.specs.declared.firing.Firing.{Firing}
use Rattle.nested_jobs.specs.Rules.{Place}
use Rattle.nested_jobs.specs.Marks.{Busy, Marks}
use Rattle.nested_jobs.specs.Journals as steps
use Rattle.nested_jobs.specs.Journals.{after}
use Rattle.nested_jobs.specs.Invariants.{Nested}
use Rattle.nested_jobs.specs.Steps.{IsEnabled, claimed, closed}
use Rattle.nested_jobs.specs.Tables.{Row, StandsFor, Table}
use Rattle.job_rules.specs.Words.{Answer}
use Rattle.board_rules.specs.Keys.{Key, rules, top_job}
use Rattle.board_rules.specs.Entries.{Step}
use Rattle.board_rules.specs.Legal.{AreLegal, state_after}

-- the open jobs, by their keys
abbrev pub OpenJobs : Type 0
OpenJobs = Table Firing Answer

-- the item that each worker runs, by the key of its job and its number
abbrev pub Held : Type 0
Held = ℕ → Option (ℕ × ℕ)

-- this worker runs this
abbrev pub hold : Held → ℕ → Option (ℕ × ℕ) → Held
hold held w h v = if w == v then h else held v

abbrev pub RunsAs : OpenJobs → Option Place → Option (ℕ × ℕ) → Type 0
RunsAs table r None = r ≡ None
RunsAs table r (Some h) = (row : Row Firing Answer) × (table h.0 ≡ Some row) × (r ≡ Some (h.1 ∷ row.place))

-- the steps are legal, the table stands for the state that they leave, and so does what each worker runs
pub record KeptAs (key : Key) (taken : List Step) (table : OpenJobs) (held : Held) : Type 0 where
  pub legal : AreLegal key taken
  pub stands : StandsFor table (state_after key taken).marks
  pub runs : (w : ℕ) → w < key.workers → RunsAs table ((state_after key taken).running w) (held w)

-- ---- claims

-- each row is still there, at its place
abbrev pub KeepsRows : OpenJobs → OpenJobs → Type 0
KeepsRows old new = (k : ℕ) (row : Row Firing Answer) → old k ≡ Some row → (later : Row Firing Answer) × (new k ≡ Some later) × (later.place ≡ row.place)

-- jobs were opened on the way to a place: the table stands for these marks, whose claim at the place is that of the old ones
pub record HasOpened (key : Key) (old : OpenJobs) (m : Marks Firing Answer) (a : Place) (table : OpenJobs) (n : Marks Firing Answer) : Type 0 where
  pub nested : Nested (rules key) (top_job key) n
  pub stands : StandsFor table n
  pub rows : KeepsRows old table
  pub claims : claimed (rules key) m a ≡ claimed (rules key) n a
  pub enables : IsEnabled (rules key) n a → IsEnabled (rules key) m a

-- ---- finishes

-- a finish is under way: what is left to do is to close jobs from this place up
pub record IsClosing (key : Key) (taken : List Step) (held : Held) (w : ℕ) (answer : Answer) (table : OpenJobs) (n : Marks Firing Answer) (p : Place) : Type 0 where
  pub allowed : AreLegal key (taken ++ steps.Finish w answer ∷ [])
  pub item : Place
  pub runs : (state_after key taken).running w ≡ Some item
  pub nested : Nested (rules key) (top_job key) n
  pub stands : StandsFor table n
  pub goes_on : (after (rules key) (state_after key taken) (steps.Finish w answer)).marks ≡ closed (rules key) n p
  pub others : (v : ℕ) → v < key.workers → v ≢ w → RunsAs table ((state_after key taken).running v) (held v)
  pub busy : (v : ℕ) (a : Place) → v ≢ w → (state_after key taken).running v ≡ Some a → n a ≡ Busy
