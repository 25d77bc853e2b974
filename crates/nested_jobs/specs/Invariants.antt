-- What claims and finishes keep of the marks.
use Rattle.std.specs.Prelude.{◌≡◌, ℕ, ◌<◌, false, Some, [], ◌∷◌}
use Rattle.nested_jobs.specs.Rules.{Place, Task, Work, Call, Rules}
use Rattle.nested_jobs.specs.Marks.{Mark, Free, Busy, Open, Done, Marks, values}
use Rattle.nested_jobs.specs.Steps.{is_settled}
use Rattle.nested_jobs.specs.Journals.{State}

-- the item with this number has this task in the job at this place, which is open
pub record InJob {J W A : Type 0} (rs : Rules J W A) (m : Marks J A) (i : ℕ) (p : Place) (t : Task J W) : Type 0 where
  pub job : J
  pub is_open : m p ≡ Open job
  pub has_task : rs.rule job (values m p) i ≡ Some t

-- what a mark says of what stands round it: an item that runs is work of an open job, and a job that is open is the top one or
-- called by an item of an open job
abbrev pub Fits : {J W A : Type 0} → Rules J W A → J → Marks J A → Place → Mark J A → Type 0
Fits {J} {W} {A} rs top m [] Free = ⊥
Fits {J} {W} {A} rs top m [] Busy = ⊥
Fits {J} {W} {A} rs top m [] (Open j) = j ≡ top
Fits {J} {W} {A} rs top m [] (Done a) = Unit {0}
Fits {J} {W} {A} rs top m (i ∷ p) Free = Unit {0}
Fits {J} {W} {A} rs top m (i ∷ p) Busy = (work : W) × InJob rs m i p (Work work)
Fits {J} {W} {A} rs top m (i ∷ p) (Open d) = InJob rs m i p (Call d)
Fits {J} {W} {A} rs top m (i ∷ p) (Done a) = Unit {0}

-- so does each mark, and nothing was claimed below a free item
pub record Nested {J W A : Type 0} (rs : Rules J W A) (top : J) (m : Marks J A) : Type 0 where
  pub fits : (a : Place) → Fits rs top m a (m a)
  pub fresh : (i : ℕ) (p : Place) → m p ≡ Free → m (i ∷ p) ≡ Free

-- something will come of an item of this job: it is busy or open, or free with a task
abbrev pub Unsettled : {J W A : Type 0} → Rules J W A → Marks J A → Place → J → Type 0
Unsettled rs m p j = (i : ℕ) × (is_settled (m (i ∷ p)) (rs.rule j (values m p) i) ≡ false)

-- something will come of each open job
abbrev pub OpenUnsettled : {J W A : Type 0} → Rules J W A → Marks J A → Type 0
OpenUnsettled {J} {W} {A} rs m = (p : Place) (j : J) → m p ≡ Open j → Unsettled rs m p j

-- What each state of a legal journal keeps: beside the marks, that the busy items are those that workers run, each run by one.
pub record Keeps {J W A : Type 0} (rs : Rules J W A) (top : J) (workers : ℕ) (s : State J A) : Type 0 where
  pub nested : Nested rs top s.marks
  pub unsettled : OpenUnsettled rs s.marks
  pub is_run : (a : Place) → s.marks a ≡ Busy → (w : ℕ) × (w < workers) × (s.running w ≡ Some a)
  pub is_busy : (w : ℕ) (a : Place) → s.running w ≡ Some a → s.marks a ≡ Busy
  pub by_one : (w u : ℕ) (a : Place) → s.running w ≡ Some a → s.running u ≡ Some a → w ≡ u
