-- Tables of open jobs, as code keeps them: for each open job a row with its place, the job, and where its items stand.
use Rattle.std.specs.Prelude.{◌≡◌, ℕ, ◌==◌, Bool, Option, Some, ◌∷◌, if◌then◌else◌}
use Rattle.nested_jobs.specs.Rules.{Place, Values, Rules}
use Rattle.nested_jobs.specs.Marks.{Mark, Free, Open, Marks, answer_of}
use Rattle.nested_jobs.specs.Steps.{all_below, is_settled}

-- a job at a place, and the marks of its items by number
pub record Row (J A : Type 0) : Type 0 where
  pub place : Place
  pub job : J
  pub marks : ℕ → Mark J A

-- the rows, by their keys
abbrev pub Table : Type 0 → Type 0 → Type 0
Table J A = ℕ → Option (Row J A)

-- the answers of the finished items of a row
abbrev pub answers_in : {J A : Type 0} → Row J A → Values A
answers_in row i = answer_of (row.marks i)

-- the table with this row at this key, or none
abbrev pub put_row : {J A : Type 0} → Table J A → ℕ → Option (Row J A) → Table J A
put_row table k row l = if k == l then row else table l

-- the row with this mark at an item
abbrev pub with_mark : {J A : Type 0} → Row J A → ℕ → Mark J A → Row J A
with_mark row i mark = record { place = row.place; job = row.job; marks = λ j. if i == j then mark else row.marks j }

-- a job of which no item is claimed
abbrev pub fresh_row : {J A : Type 0} → Place → J → Row J A
fresh_row place job = record { place = place; job = job; marks = λ i. Free }

-- the row tells of the job at its place, and of its items
pub record IsRow {J A : Type 0} (m : Marks J A) (row : Row J A) : Type 0 where
  pub is_open : m row.place ≡ Open row.job
  pub items : (i : ℕ) → m (i ∷ row.place) ≡ row.marks i

-- the row of an open job
pub record HasRow {J A : Type 0} (table : Table J A) (p : Place) : Type 0 where
  pub key : ℕ
  pub row : Row J A
  pub here : table key ≡ Some row
  pub place_is : row.place ≡ p

-- each row tells of an open job, each open job has a row, and no two rows tell of one
pub record StandsFor {J A : Type 0} (table : Table J A) (m : Marks J A) : Type 0 where
  pub rows : (k : ℕ) (row : Row J A) → table k ≡ Some row → IsRow m row
  pub whole : (p : Place) (job : J) → m p ≡ Open job → HasRow table p
  pub apart : (k l : ℕ) (one other : Row J A) → table k ≡ Some one → table l ≡ Some other → one.place ≡ other.place → k ≡ l

-- nothing more will come of the items of a row
abbrev pub is_quiet_row : {J W A : Type 0} → Rules J W A → Row J A → Bool
is_quiet_row rules row = all_below (rules.count row.job (answers_in row)) (λ i. is_settled (row.marks i) (rules.rule row.job (answers_in row) i))
