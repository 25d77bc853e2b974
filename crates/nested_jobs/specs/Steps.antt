-- What a claim and a finish do to the marks, whatever these are: a mark whose change isn't due stays as it is.
use Rattle.std.specs.Prelude.{◌≡◌, ℕ, zero, suc, Bool, true, false, ◌&&◌, Option, Some, None, is_none, [], ◌∷◌, if◌then◌else◌}
use Rattle.nested_jobs.specs.Rules.{Place, Task, Work, Call, Values, Rules}
use Rattle.nested_jobs.specs.Marks.{Mark, Free, Busy, Open, Done, Marks, put, values}

-- ---- claims

-- the task of an item of a job with this mark
abbrev pub task_in : {J W A : Type 0} → Rules J W A → Mark J A → Values A → ℕ → Option (Task J W)
task_in rules Free v i = None
task_in rules Busy v i = None
task_in rules (Open job) v i = rules.rule job v i
task_in rules (Done answer) v i = None

-- the task of the item with this number in the job at this place
abbrev pub task_at : {J W A : Type 0} → Rules J W A → Marks J A → ℕ → Place → Option (Task J W)
task_at rules marks i p = task_in rules (marks p) (values marks p) i

-- a free item whose task is a call opens
abbrev pub opens : {J W A : Type 0} → Mark J A → Option (Task J W) → Mark J A
opens Free (Some (Call job)) = Open job
opens Free (Some (Work work)) = Free
opens Free None = Free
opens Busy t = Busy
opens (Open job) t = Open job
opens (Done answer) t = Done answer

-- a free item whose task is work gets busy
abbrev pub begins : {J W A : Type 0} → Mark J A → Option (Task J W) → Mark J A
begins Free (Some (Work work)) = Busy
begins Free (Some (Call job)) = Free
begins Free None = Free
begins Busy t = Busy
begins (Open job) t = Open job
begins (Done answer) t = Done answer

abbrev pub open_one : {J W A : Type 0} → Rules J W A → Marks J A → ℕ → Place → Marks J A
open_one rules marks i p = put marks (i ∷ p) (opens (marks (i ∷ p)) (task_at rules marks i p))

abbrev pub begin_one : {J W A : Type 0} → Rules J W A → Marks J A → ℕ → Place → Marks J A
begin_one rules marks i p = put marks (i ∷ p) (begins (marks (i ∷ p)) (task_at rules marks i p))

-- every job on the way to this place is opened that may be
abbrev pub opened : {J W A : Type 0} → Rules J W A → Marks J A → Place → Marks J A
opened rules marks [] = marks
opened rules marks (i ∷ p) = open_one rules (opened rules marks p) i p

-- a claim opens the jobs on the item's way, and makes the item busy
abbrev pub claimed : {J W A : Type 0} → Rules J W A → Marks J A → Place → Marks J A
claimed rules marks [] = marks
claimed rules marks (i ∷ p) = begin_one rules (opened rules marks p) i p

-- an item is enabled where it is free and its claim makes it busy
abbrev pub IsEnabled : {J W A : Type 0} → Rules J W A → Marks J A → Place → Type 0
IsEnabled rules marks a = (marks a ≡ Free) × (claimed rules marks a a ≡ Busy)

-- ---- finishes

-- nothing more will come of an item: it is done, or not all that stands before it is there
abbrev pub is_settled : {J W A : Type 0} → Mark J A → Option (Task J W) → Bool
is_settled Free t = is_none t
is_settled Busy t = false
is_settled (Open job) t = false
is_settled (Done answer) t = true

abbrev pub all_below : ℕ → (ℕ → Bool) → Bool
all_below zero f = true
all_below (suc n) f = f n && all_below n f

-- a job is quiet where nothing more will come of its items
abbrev pub is_quiet : {J W A : Type 0} → Rules J W A → Marks J A → J → Place → Bool
is_quiet rules marks job p = all_below (rules.count job (values marks p)) (λ i. is_settled (marks (i ∷ p)) (rules.rule job (values marks p) i))

-- an open job that is quiet is closed: its outcome is the answer of its item
abbrev pub close_as : {J W A : Type 0} → Rules J W A → Marks J A → Place → Mark J A → Mark J A
close_as rules marks p Free = Free
close_as rules marks p Busy = Busy
close_as rules marks p (Open job) = if is_quiet rules marks job p then Done (rules.outcome job (values marks p)) else Open job
close_as rules marks p (Done answer) = Done answer

abbrev pub close_one : {J W A : Type 0} → Rules J W A → Marks J A → Place → Marks J A
close_one rules marks p = put marks p (close_as rules marks p (marks p))

-- the job at this place and those round it, from the deepest up
abbrev pub closed : {J W A : Type 0} → Rules J W A → Marks J A → Place → Marks J A
closed rules marks [] = close_one rules marks []
closed rules marks (i ∷ p) = closed rules (close_one rules marks (i ∷ p)) p

abbrev pub ends : {J A : Type 0} → A → Mark J A → Mark J A
ends answer Free = Free
ends answer Busy = Done answer
ends answer (Open job) = Open job
ends answer (Done before) = Done before

-- a finish stores the answer that it brings, and closes the jobs that are then quiet
abbrev pub finished : {J W A : Type 0} → Rules J W A → Marks J A → Place → A → Marks J A
finished rules marks [] answer = marks
finished rules marks (i ∷ p) answer = closed rules (put marks (i ∷ p) (ends answer (marks (i ∷ p)))) p
