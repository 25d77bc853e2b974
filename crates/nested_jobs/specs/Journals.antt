-- Journals of claims and finishes: the state that each leaves, and which are legal.
use Rattle.std.specs.Prelude.{◌≡◌, ℕ, ◌==◌, ◌<◌, Option, Some, None, List, [], ◌∷◌, if◌then◌else◌}
use Rattle.nested_jobs.specs.Rules.{Place, Task, Work, Rules}
use Rattle.nested_jobs.specs.Marks.{Mark, Free, Open, Marks}
use Rattle.nested_jobs.specs.Steps.{task_at, claimed, IsEnabled, finished}

-- a worker claims the item at a place, or finishes the one that it runs with an answer
pub data Entry (A : Type 0) : Type 0 where
  Claim : (worker : ℕ) (place : Place) → Entry A
  Finish : (worker : ℕ) (answer : A) → Entry A

-- the marks, and what each worker runs
pub record State (J A : Type 0) : Type 0 where
  pub marks : Marks J A
  pub running : ℕ → Option Place

-- what each worker runs, this one running this
abbrev pub assign : (ℕ → Option Place) → ℕ → Option Place → ℕ → Option Place
assign running w r v = if w == v then r else running v

abbrev pub start_mark : {J A : Type 0} → J → Place → Mark J A
start_mark top [] = Open top
start_mark top (i ∷ p) = Free

-- the top job is open and nothing is claimed
abbrev pub start : {J A : Type 0} → J → State J A
start top = record { marks = start_mark top; running = λ w. None }

-- a worker that runs nothing has nothing to finish
abbrev pub finish_of : {J W A : Type 0} → Rules J W A → State J A → ℕ → A → Option Place → State J A
finish_of rules s w answer None = s
finish_of rules s w answer (Some a) = record { marks = finished rules s.marks a answer; running = assign s.running w None }

abbrev pub after : {J W A : Type 0} → Rules J W A → State J A → Entry A → State J A
after rules s (Claim w a) = record { marks = claimed rules s.marks a; running = assign s.running w (Some a) }
after rules s (Finish w answer) = finish_of rules s w answer (s.running w)

abbrev pub state_from : {J W A : Type 0} → Rules J W A → State J A → List (Entry A) → State J A
state_from rules s [] = s
state_from rules s (e ∷ es) = state_from rules (after rules s e) es

-- the state that a journal leaves
abbrev pub state : {J W A : Type 0} → Rules J W A → J → List (Entry A) → State J A
state rules top journal = state_from rules (start top) journal

-- the task of the item at a place
abbrev pub task_of : {J W A : Type 0} → Rules J W A → Marks J A → Place → Option (Task J W)
task_of rules marks [] = None
task_of rules marks (i ∷ p) = task_at rules marks i p

-- a worker that runs nothing claims an enabled item
pub record MayClaim {J W A : Type 0} (rules : Rules J W A) (workers : ℕ) (s : State J A) (w : ℕ) (place : Place) : Type 0 where
  pub is_worker : w < workers
  pub runs_none : s.running w ≡ None
  pub enabled : IsEnabled rules s.marks place

-- a worker that runs an item finishes it with an answer that its work may have
pub record MayFinish {J W A : Type 0} (rules : Rules J W A) (answers : W → A → Type 0) (workers : ℕ) (s : State J A) (w : ℕ) (answer : A) : Type 0 where
  pub is_worker : w < workers
  pub place : Place
  pub runs : s.running w ≡ Some place
  pub work : W
  pub is_work : task_of rules s.marks place ≡ Some (Work work)
  pub answered : answers work answer

abbrev pub Allowed : {J W A : Type 0} → Rules J W A → (W → A → Type 0) → ℕ → State J A → Entry A → Type 0
Allowed rules answers workers s (Claim w a) = MayClaim rules workers s w a
Allowed rules answers workers s (Finish w answer) = MayFinish rules answers workers s w answer

abbrev pub LegalFrom : {J W A : Type 0} → Rules J W A → (W → A → Type 0) → ℕ → State J A → List (Entry A) → Type 0
LegalFrom rules answers workers s [] = Unit {0}
LegalFrom rules answers workers s (e ∷ es) = Allowed rules answers workers s e × LegalFrom rules answers workers (after rules s e) es

-- each entry is allowed in the state that those before it leave
abbrev pub Legal : {J W A : Type 0} → Rules J W A → (W → A → Type 0) → ℕ → J → List (Entry A) → Type 0
Legal rules answers workers top journal = LegalFrom rules answers workers (start top) journal

-- this worker runs the item at this place
abbrev pub Runs : {J A : Type 0} → ℕ → State J A → ℕ → Place → Type 0
Runs workers s w place = (w < workers) × (s.running w ≡ Some place)

-- nothing is enabled and nothing runs
pub record IsEnded {J W A : Type 0} (rules : Rules J W A) (workers : ℕ) (s : State J A) : Type 0 where
  pub none_enabled : (a : Place) → ¬ (IsEnabled rules s.marks a)
  pub none_run : (w : ℕ) → w < workers → s.running w ≡ None

-- Of an entry that needn't be legal: a finish of an item whose task is work brings an answer that this work may have.
abbrev pub Answered : {J W A : Type 0} → Rules J W A → (W → A → Type 0) → State J A → Entry A → Type 0
Answered {J} {W} {A} rules answers s (Claim w a) = Unit {0}
Answered {J} {W} {A} rules answers s (Finish w answer) = (place : Place) (work : W) → s.running w ≡ Some place → task_of rules s.marks place ≡ Some (Work work) → answers work answer

abbrev pub AnsweredFrom : {J W A : Type 0} → Rules J W A → (W → A → Type 0) → State J A → List (Entry A) → Type 0
AnsweredFrom rules answers s [] = Unit {0}
AnsweredFrom rules answers s (e ∷ es) = Answered rules answers s e × AnsweredFrom rules answers (after rules s e) es
