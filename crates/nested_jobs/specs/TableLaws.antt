-- What the steps of a board do to a table of open jobs.
use Rattle.std.specs.Prelude.{◌≡◌, ℕ, Some, None, List, [], ◌∷◌, ◌++◌}
use Rattle.nested_jobs.specs.Rules.{Rules}
use Rattle.nested_jobs.specs.Marks.{Open, Done, Marks, put}
use Rattle.nested_jobs.specs.Steps.{IsEnabled, claimed, closed, finished}
use Rattle.nested_jobs.specs.Invariants.{Nested}
use Rattle.nested_jobs.specs.Tables.{Row, Table, StandsFor, answers_in, fresh_row, put_row, with_mark}

-- an opening marks the item in its row, and adds a row; what is claimed below is claimed as if the job had been open
pub record Opens {J W A : Type 0} (rs : Rules J W A) (top : J) (table : Table J A) (m : Marks J A) (k l i : ℕ) (row : Row J A) (d : J) : Type 0 where
  pub nested : Nested rs top (put m (i ∷ row.place) (Open d))
  pub stands : StandsFor (put_row (put_row table k (Some (with_mark row i (Open d)))) l (Some (fresh_row (i ∷ row.place) d))) (put m (i ∷ row.place) (Open d))
  pub claims : (j : ℕ) (way : List ℕ) → claimed rs m (j ∷ way ++ i ∷ row.place) ≡ claimed rs (put m (i ∷ row.place) (Open d)) (j ∷ way ++ i ∷ row.place)
  pub enables : (j : ℕ) (way : List ℕ) → IsEnabled rs (put m (i ∷ row.place) (Open d)) (j ∷ way ++ i ∷ row.place) → IsEnabled rs m (j ∷ way ++ i ∷ row.place)

-- a finish marks the item in its row, and then closes jobs from its own up
pub record Finishes {J W A : Type 0} (rs : Rules J W A) (top : J) (table : Table J A) (m : Marks J A) (k i : ℕ) (row : Row J A) (answer : A) : Type 0 where
  pub nested : Nested rs top (put m (i ∷ row.place) (Done answer))
  pub stands : StandsFor (put_row table k (Some (with_mark row i (Done answer)))) (put m (i ∷ row.place) (Done answer))
  pub closes : finished rs m (i ∷ row.place) answer ≡ closed rs (put m (i ∷ row.place) (Done answer)) row.place

-- a job that is quiet is closed: its row goes, its outcome is the answer of its item in the row round it, and closings go on there
pub record Closes {J W A : Type 0} (rs : Rules J W A) (top : J) (table : Table J A) (m : Marks J A) (k l i : ℕ) (row upper : Row J A) : Type 0 where
  pub was : upper.marks i ≡ Open row.job
  pub nested : Nested rs top (put m (i ∷ upper.place) (Done (rs.outcome row.job (answers_in row))))
  pub stands : StandsFor (put_row (put_row table k None) l (Some (with_mark upper i (Done (rs.outcome row.job (answers_in row)))))) (put m (i ∷ upper.place) (Done (rs.outcome row.job (answers_in row))))
  pub goes_on : closed rs m (i ∷ upper.place) ≡ closed rs (put m (i ∷ upper.place) (Done (rs.outcome row.job (answers_in row)))) upper.place

-- where that is the top job, nothing is open any more
pub record ClosesTop {J W A : Type 0} (rs : Rules J W A) (table : Table J A) (m : Marks J A) (k : ℕ) (row : Row J A) : Type 0 where
  pub stands : StandsFor (put_row table k None) (closed rs m [])
  pub done : closed rs m [] [] ≡ Done (rs.outcome row.job (answers_in row))
