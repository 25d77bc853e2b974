-- The nodes that may start, and those whose time is to come, each as keys in order: a number and the node.
use Rattle.std.specs.Prelude.{◌≡◌, ℕ, ◌+◌, ◌-◌, ◌<◌, ◌≤◌, ◌⊎◌, max, List, [], ◌∷◌, Contains, slice_index}
use Rattle.worker_mapping.specs.Choice.{IsFirstLeast}
use Rattle.worker_mapping.specs.declared.entry.Entry.{Entry}

-- the lesser, the greater the priority
abbrev pub urgency : List ℕ → ℕ → ℕ
urgency priority n = 18446744073709551615 - slice_index priority n

-- when the next node starts: where none may start, at the first time to come
abbrev pub time_of : ℕ → ℕ → List (ℕ × ℕ) → List (ℕ × ℕ) → ℕ
time_of now free [] [] = max now free
time_of now free [] (key ∷ later) = max (max now free) key.0
time_of now free (key ∷ due) later = max now free

-- those whose time has come have moved
pub record Moves (now : ℕ) (priority : List ℕ) (due later due' later' : List (ℕ × ℕ)) : Type 0 where
  pub kept : (key : ℕ × ℕ) → Contains due key → Contains due' key
  pub moved : (key : ℕ × ℕ) → Contains later key → Contains later' key ⊎ ((key.0 ≤ now) × Contains due' (urgency priority key.1, key.1))
  pub only : (key : ℕ × ℕ) → Contains due' key → Contains due key ⊎ ((old : ℕ × ℕ) × Contains later old × (old.0 ≤ now) × (key ≡ (urgency priority old.1, old.1)))
  pub left : (key : ℕ × ℕ) → Contains later' key → Contains later key
  pub past : (key : ℕ × ℕ) → Contains later' key → now < key.0

-- it goes before the other
abbrev pub Before : ℕ × ℕ → ℕ × ℕ → Type 0
Before a b = (a.0 < b.0) ⊎ ((a.0 ≡ b.0) × (a.1 < b.1))

-- the first of those that may start at the next time, on the worker that is free earliest
pub record Takes (costs priority free : List ℕ) (now : ℕ) (due later : List (ℕ × ℕ)) (now' : ℕ) (due' later' : List (ℕ × ℕ)) (entry : Entry) : Type 0 where
  pub worker : IsFirstLeast free entry.worker
  pub time : now' ≡ time_of now (slice_index free entry.worker) due later
  pub least : due ≡ [] → (key : ℕ × ℕ) → Contains later key → now' ≤ max (max now (slice_index free entry.worker)) key.0
  pub middle : List (ℕ × ℕ)
  pub moves : Moves now' priority due later middle later'
  pub key : ℕ × ℕ
  pub first : middle ≡ key ∷ due'
  pub others : (other : ℕ × ℕ) → Contains due' other → Before key other
  pub node : entry.node ≡ key.1
  pub start : entry.start ≡ now'
  pub end : entry.end ≡ entry.start + slice_index costs entry.node

-- these have joined by their times
pub record Queues (nodes ready : List ℕ) (later later' : List (ℕ × ℕ)) : Type 0 where
  pub kept : (key : ℕ × ℕ) → Contains later key → Contains later' key
  pub joined : (n : ℕ) → Contains nodes n → Contains later' (slice_index ready n, n)
  pub only : (key : ℕ × ℕ) → Contains later' key → Contains later key ⊎ (Contains nodes key.1 × (key.0 ≡ slice_index ready key.1))
