-- The list schedule: in every place the entry that follows from the entries before it.
use Rattle.std.specs.Prelude.{◌≡◌, ℕ, ◌+◌, ◌<◌, ◌≤◌, ◌⊎◌, ◌==◌, max, Bool, IsTrue, IsFalse, All, List, [], ◌∷◌, ◌++◌, length, map, filter, slice_index, ⊤}
use Rattle.std.specs.List.{list_any}
use Rattle.worker_mapping.specs.Graph.{CostedGraph, nodes_before, greatest}
use Rattle.worker_mapping.specs.declared.entry.Entry.{Entry}

-- the greatest end of the entries that pass, 0 where none does
abbrev pub last_end : (Entry → Bool) → List Entry → ℕ
last_end test placed = greatest (map (λ e. e.end) (filter test placed))

-- a worker is free when the last of its entries ends, at 0 where it has none
abbrev pub free_time : List Entry → ℕ → ℕ
free_time placed w = last_end (λ e. e.worker == w) placed

abbrev pub end_of : List Entry → ℕ → ℕ
end_of placed n = last_end (λ e. e.node == n) placed

abbrev pub is_placed : List Entry → ℕ → Bool
is_placed placed n = list_any (λ e. e.node == n) placed

-- it isn't placed, and all nodes before it are
pub record IsCandidate (graph : CostedGraph) (placed : List Entry) (n : ℕ) : Type 0 where
  pub there : n < graph.nodes
  pub unplaced : IsFalse (is_placed placed n)
  pub after_all : All (λ m. IsTrue (is_placed placed m)) (nodes_before graph.edges n)

-- the greatest end of the nodes before it, 0 with none
abbrev pub ready_time : CostedGraph → List Entry → ℕ → ℕ
ready_time graph placed n = greatest (map (end_of placed) (nodes_before graph.edges n))

-- it is free earliest, and has the least number of those that are
pub record IsFreeEarliest (workers : ℕ) (placed : List Entry) (w : ℕ) : Type 0 where
  pub there : w < workers
  pub earliest : (v : ℕ) → v < workers → free_time placed w ≤ free_time placed v
  pub least : (v : ℕ) → v < w → free_time placed w < free_time placed v

-- the least ready time of a candidate
pub record IsLeastReady (graph : CostedGraph) (placed : List Entry) (ready : ℕ) : Type 0 where
  pub candidate : ℕ
  pub is_candidate : IsCandidate graph placed candidate
  pub reached : ready_time graph placed candidate ≡ ready
  pub least : (n : ℕ) → IsCandidate graph placed n → ready ≤ ready_time graph placed n

-- it has the greater priority, or at a tie the lesser number
abbrev pub GoesFirst : List ℕ → ℕ → ℕ → Type 0
GoesFirst priority n m =
    (slice_index priority m < slice_index priority n)
    ⊎ ((slice_index priority m ≡ slice_index priority n) × (n ≤ m))

-- The worker that is free earliest takes, at the greater of its free time and the least ready time of a candidate,
-- the first of the candidates that are ready by then, and is free again after the node's cost.
pub record IsChoice (graph : CostedGraph) (workers : ℕ) (priority : List ℕ) (placed : List Entry) (entry : Entry) : Type 0 where
  pub worker : IsFreeEarliest workers placed entry.worker
  pub least_ready : ℕ
  pub is_least_ready : IsLeastReady graph placed least_ready
  pub start : entry.start ≡ max (free_time placed entry.worker) least_ready
  pub candidate : IsCandidate graph placed entry.node
  pub ready : ready_time graph placed entry.node ≤ entry.start
  pub first : (n : ℕ) → IsCandidate graph placed n → ready_time graph placed n ≤ entry.start → GoesFirst priority entry.node n
  pub end : entry.end ≡ entry.start + slice_index graph.costs entry.node

-- of each entry in the rest, with the entries before it
abbrev pub EachEntry : (List Entry → Entry → Type 0) → List Entry → List Entry → Type 0
EachEntry P placed [] = ⊤
EachEntry P placed (entry ∷ rest) = P placed entry × EachEntry P (placed ++ entry ∷ []) rest

-- how many entries a node has
abbrev pub times_placed : List Entry → ℕ → ℕ
times_placed placed n = length (filter (λ e. e.node == n) placed)

-- every entry is the choice after those before it, and every node stands in it exactly once
pub record IsSchedule (graph : CostedGraph) (workers : ℕ) (priority : List ℕ) (entries : List Entry) : Type 0 where
  pub each : EachEntry (IsChoice graph workers priority) [] entries
  pub once : (n : ℕ) → n < graph.nodes → times_placed entries n ≡ 1

-- no two lists are schedules
abbrev pub IsOneSchedule : CostedGraph → ℕ → List ℕ → Type 0
IsOneSchedule graph workers priority =
    (one other : List Entry) → IsSchedule graph workers priority one → IsSchedule graph workers priority other → one ≡ other

-- each node's home is the worker of its entry in the schedule
pub record AreHomes (graph : CostedGraph) (workers : ℕ) (priority home : List ℕ) : Type 0 where
  pub entries : List Entry
  pub schedule : IsSchedule graph workers priority entries
  pub one_each : length home ≡ graph.nodes
  pub each : All (λ e. slice_index home e.node ≡ e.worker) entries
