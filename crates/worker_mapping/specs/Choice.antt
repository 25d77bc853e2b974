-- The choices of a list schedule, from what is kept of the entries so far.
use Rattle.std.specs.Prelude.{◌≡◌, ℕ, ◌+◌, ◌<◌, ◌≤◌, ◌⊎◌, max, List, Contains, length, slice_index}
use Rattle.worker_mapping.specs.declared.entry.Entry.{Entry}

-- what the choice compares of a node that may start at a time
pub record Candidate : Type 0 where
  pub start : ℕ
  pub priority : ℕ
  pub node : ℕ

-- the first place of the least number
pub record IsFirstLeast (numbers : List ℕ) (w : ℕ) : Type 0 where
  pub there : w < length numbers
  pub least : (v : ℕ) → v < length numbers → slice_index numbers w ≤ slice_index numbers v
  pub first : (v : ℕ) → v < w → slice_index numbers w < slice_index numbers v

-- it starts earlier, or has the greater priority, or the lesser number, or is the same
abbrev pub IsNotAfter : Candidate → Candidate → Type 0
IsNotAfter a b =
    (a.start < b.start)
    ⊎ ((a.start ≡ b.start) × ((b.priority < a.priority) ⊎ ((b.priority ≡ a.priority) × (a.node ≤ b.node))))

-- a node that may start when it is ready and a worker is free
abbrev pub candidate_of : List ℕ → List ℕ → ℕ → ℕ → Candidate
candidate_of ready priority free n = record { start = max (slice_index ready n) free; priority = slice_index priority n; node = n }

-- the one that no other goes before
pub record IsFirstOf (nodes ready priority : List ℕ) (free : ℕ) (c : Candidate) : Type 0 where
  pub among : Contains nodes c.node
  pub is : c ≡ candidate_of ready priority free c.node
  pub first : (n : ℕ) → Contains nodes n → IsNotAfter c (candidate_of ready priority free n)

-- the entry of the first candidate on the worker that is free earliest
pub record IsNext (costs priority candidates ready free : List ℕ) (entry : Entry) : Type 0 where
  pub worker : IsFirstLeast free entry.worker
  pub chosen : Candidate
  pub is_first : IsFirstOf candidates ready priority (slice_index free entry.worker) chosen
  pub node : entry.node ≡ chosen.node
  pub start : entry.start ≡ chosen.start
  pub end : entry.end ≡ entry.start + slice_index costs entry.node
