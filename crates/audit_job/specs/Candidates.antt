-- Which items of a job may be offered, and how many are claimed or have an open call.
use Rattle.std.specs.Prelude.{◌≡◌, ◌≢◌, ℕ, ◌+◌, ◌<◌, ◌≤◌, ◌⊎◌, ◌==◌, Bool, true, false, List, [], ◌∷◌, All, Contains, Vec, length, slice_index, vec_capacity, Option, Some, None, if◌then◌else◌}
use Rattle.std.specs.Global.{Global}
use Rattle.nested_jobs.specs.Marks.{Mark, Free, Busy, Open, Done}
use Rattle.pisdf_meaning.specs.declared.firing.Firing.{Firing}
use Rattle.job_rules.specs.Words as words
use Rattle.audit_job.specs.Marks.{mark_at, mark_of}
use Rattle.audit_job.specs.declared.answer.Mark.{Mark as OwnMark}
use Rattle.audit_job.specs.declared.job.Nodes.{Nodes}

-- ---- items that run

-- a worker runs the item, or its call is open
abbrev pub is_running : Mark Firing words.Answer → Bool
is_running Free = false
is_running Busy = true
is_running (Open called) = true
is_running (Done answer) = false

abbrev pub running_in : List OwnMark → ℕ
running_in [] = 0
running_in (m ∷ marks) = (if is_running (mark_of m) then 1 else 0) + running_in marks

-- ---- nodes that wait

-- how many of these nodes wait for an edge
abbrev pub waiting_in : List ℕ → ℕ
waiting_in [] = 0
waiting_in (w ∷ waits) = (if w == 0 then 0 else 1) + waiting_in waits

-- for how many edges each node waits, once there are nodes
abbrev pub waits_in : Option Nodes → List ℕ
waits_in None = []
waits_in (Some nodes) = nodes.waits.items

-- ---- candidates

-- each free item that waits for nothing is a candidate, and there is room for those that wait; the compilation has this number
pub record AreCandidates (marks : List OwnMark) (base : ℕ) (waits : List ℕ) (candidates : Vec ℕ Global) : Type 0 where
  pub there : All (λ (i : ℕ). i < length marks) candidates.items
  pub early : (i : ℕ) → i ≤ base → mark_at marks i ≡ Free → Contains candidates.items i
  pub nodes : (n : ℕ) → n < length waits → slice_index waits n ≡ 0 → mark_at marks (base + 1 + n) ≡ Free → Contains candidates.items (base + 1 + n)
  pub room : length candidates.items + waiting_in waits ≤ vec_capacity candidates

-- no other item is gone, and none is new; that this one is gone isn't said, since an offer is looked up in the marks
pub record TakesOut (item : ℕ) (old new : Vec ℕ Global) : Type 0 where
  pub others : (i : ℕ) → i ≢ item → Contains old.items i → Contains new.items i
  pub only : All (λ (i : ℕ). Contains old.items i) new.items
  pub fewer : length new.items ≤ length old.items
  pub room : vec_capacity new ≡ vec_capacity old

-- those of so many nodes of which this holds are there now, and what is new is one of these nodes; node 0 has this number among
-- the items
pub record Adds (first count : ℕ) (P : ℕ → Type 0) (old new : Vec ℕ Global) : Type 0 where
  pub kept : (i : ℕ) → Contains old.items i → Contains new.items i
  pub added : (n : ℕ) → n < count → P n → Contains new.items (first + n)
  pub only : All (λ (i : ℕ). Contains old.items i ⊎ ((n : ℕ) × (n < count) × (i ≡ first + n))) new.items

-- the node waited before, and waits for nothing now
abbrev pub IsReleased : List ℕ → List ℕ → ℕ → Type 0
IsReleased before after n = (0 < slice_index before n) × (slice_index after n ≡ 0)
