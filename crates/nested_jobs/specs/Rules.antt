-- Jobs, their items, and the rules that say what each item is to do.
use Rattle.std.specs.Prelude.{ℕ, List, Option}

-- a place: the number of an item in its job, then the place of its job. The job that an item calls has the place of the
-- item, and the top job has []
abbrev pub Place : Type 0
Place = List ℕ

-- what an item is to do once all that stands before it is there: work of its own, or a call of another job
pub data Task (J W : Type 0) : Type 0 where
  Work : (work : W) → Task J W
  Call : (job : J) → Task J W

-- the answers of a job's finished items, by number
abbrev pub Values : Type 0 → Type 0
Values A = ℕ → Option A

-- A job's items as the answers of those finished tell them: how many there are; the task of each, and none while something
-- that stands before it isn't there; and what the job answers, once nothing more will come of them.
pub record Rules (J W A : Type 0) : Type 0 where
  pub count : J → Values A → ℕ
  pub rule : J → Values A → ℕ → Option (Task J W)
  pub outcome : J → Values A → A
