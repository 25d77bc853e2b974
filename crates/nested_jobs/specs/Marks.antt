-- Where each item stands.
use Rattle.std.specs.Prelude.{◌==◌, Bool, true, false, ◌&&◌, Option, Some, None, [], ◌∷◌, if◌then◌else◌}
use Rattle.nested_jobs.specs.Rules.{Place, Values}

-- An item is free until it is claimed, and busy while a worker runs it. One that calls a job is open while that job is.
pub data Mark (J A : Type 0) : Type 0 where
  Free : Mark J A
  Busy : Mark J A
  Open : (job : J) → Mark J A
  Done : (answer : A) → Mark J A

abbrev pub Marks : Type 0 → Type 0 → Type 0
Marks J A = Place → Mark J A

-- whether two places are one
abbrev pub same : Place → Place → Bool
same [] [] = true
same [] (y ∷ ys) = false
same (x ∷ xs) [] = false
same (x ∷ xs) (y ∷ ys) = x == y && same xs ys

-- the marks with this one at this place
abbrev pub put : {J A : Type 0} → Marks J A → Place → Mark J A → Marks J A
put marks a m b = if same a b then m else marks b

abbrev pub answer_of : {J A : Type 0} → Mark J A → Option A
answer_of Free = None
answer_of Busy = None
answer_of (Open job) = None
answer_of (Done answer) = Some answer

-- the answers of the finished items of the job at this place
abbrev pub values : {J A : Type 0} → Marks J A → Place → Values A
values marks p i = answer_of (marks (i ∷ p))
