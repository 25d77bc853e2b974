-- What is kept of a schedule while it grows, and one entry more.
use Rattle.std.specs.Prelude.{◌≡◌, ℕ, suc, zero, ◌+◌, ◌*◌, ◌^◌, ◌<◌, ◌≤◌, ◌⊎◌, ◌↔◌, ◌++◌, not, cond, IsTrue, List, [], Contains, length, map, filter, slice_index}
use Rattle.std.specs.List.{AllByRecursion}
use Rattle.sdf_level.specs.Lists.{lists_of}
use Rattle.worker_mapping.specs.Graph.{CostedGraph, AreThere, graph_of, nodes_before}
use Rattle.worker_mapping.specs.Neighbours.{AreAfter, AreCounted}
use Rattle.worker_mapping.specs.Queues.{urgency, Takes}
use Rattle.worker_mapping.specs.Release.{ArePlacesOfZero}
use Rattle.worker_mapping.specs.Schedule.{is_placed, times_placed, free_time, ready_time, IsCandidate, IsChoice, EachEntry}
use Rattle.worker_mapping.specs.declared.entry.Entry.{Entry}
use Rattle.worker_mapping.specs.declared.growing.Growing.{Growing}
use Rattle.worker_mapping.specs.declared.growing.Work.{Work}

-- how many edges lead to a node from nodes that aren't placed
abbrev pub waiting_for : List (ℕ × ℕ) → List Entry → ℕ → ℕ
waiting_for edges placed n = length (filter (λ m. not (is_placed placed m)) (nodes_before edges n))

-- how many of the first nodes aren't placed
abbrev pub unplaced_below : List Entry → ℕ → ℕ
unplaced_below placed zero = 0
unplaced_below placed (suc n) = cond (is_placed placed n) 0 1 + unplaced_below placed n

-- the greatest cost of a node
abbrev pub most_cost : ℕ
most_cost = 4294967295

-- the kept lists are those of the entries so far
pub record Follows (graph : CostedGraph) (workers : ℕ) (placed : List Entry) (waiting ready candidates free : List ℕ) : Type 0 where
  pub waiting_long : length waiting ≡ graph.nodes
  pub waiting_each : (n : ℕ) → n < graph.nodes → slice_index waiting n ≡ waiting_for graph.edges placed n
  pub ready_long : length ready ≡ graph.nodes
  pub ready_each : (n : ℕ) → n < graph.nodes → slice_index ready n ≡ ready_time graph placed n
  pub free_long : length free ≡ workers
  pub free_each : (w : ℕ) → w < workers → slice_index free w ≡ free_time placed w
  pub candidates_each : (n : ℕ) → Contains candidates n ↔ IsCandidate graph placed n
  pub once : (n : ℕ) → times_placed placed n ≡ cond (is_placed placed n) 1 0
  pub closed : (n : ℕ) → IsTrue (is_placed placed n) → waiting_for graph.edges placed n ≡ 0
  pub left : length placed + unplaced_below placed graph.nodes ≡ graph.nodes
  pub ends : AllByRecursion (λ e. e.end ≤ length placed * most_cost) placed

abbrev pub node_in : ℕ × ℕ → ℕ
node_in key = key.1

-- all candidates, those first that may start
abbrev pub nodes_of : List (ℕ × ℕ) → List (ℕ × ℕ) → List ℕ
nodes_of due later = map node_in due ++ map node_in later

-- Those that may start were ready at the last start, and go by their priorities; the others by their times. The next start
-- isn't before the last one.
pub record Queued (priority ready free : List ℕ) (now : ℕ) (due later : List (ℕ × ℕ)) : Type 0 where
  pub due_each : (key : ℕ × ℕ) → Contains due key → (key.0 ≡ urgency priority key.1) × (slice_index ready key.1 ≤ now)
  pub later_each : (key : ℕ × ℕ) → Contains later key → key.0 ≡ slice_index ready key.1
  pub onward : ((w : ℕ) → w < length free → now ≤ slice_index free w) ⊎ ((n : ℕ) → Contains (nodes_of due later) n → now ≤ slice_index ready n)

-- what is kept while a schedule grows
pub record Schedules (graph : CostedGraph) (workers : ℕ) (priority : List ℕ) (placed : List Entry) (waiting ready free : List ℕ) (now : ℕ) (due later : List (ℕ × ℕ)) : Type 0 where
  pub each : EachEntry (IsChoice graph workers priority) [] placed
  pub follows : Follows graph workers placed waiting ready (nodes_of due later) free
  pub queued : Queued priority ready free now due later
  pub slow : now ≤ length placed * most_cost

-- the lists have an entry for each node, edges lead from node to node, and numbers fit their types
pub record IsWork (w : Work) : Type 0 where
  pub edges : AreThere w.nodes w.edges.now
  pub costs : length w.costs.now ≡ w.nodes
  pub workers : 0 < w.workers
  pub priority : length w.priority.now ≡ w.nodes
  pub after : AreAfter w.nodes w.edges.now (lists_of w.after.now)
  pub few : w.nodes < 2 ^ 32
  pub few_workers : w.workers < 2 ^ 32
  pub small : (n : ℕ) → slice_index w.priority.now n < 2 ^ 64
  pub cheap : (n : ℕ) → slice_index w.costs.now n ≤ most_cost

abbrev pub graph_in : Work → CostedGraph
graph_in w = graph_of w.nodes w.edges.now w.costs.now

-- no node is placed, and those that wait for none are candidates
pub record Begins (w : Work) (g : Growing) : Type 0 where
  pub none : g.entries.items ≡ []
  pub waiting : AreCounted w.nodes w.edges.now g.waiting.items
  pub candidates : ArePlacesOfZero g.waiting.items g.candidates.items
  pub ready_long : length g.ready.items ≡ w.nodes
  pub ready : (n : ℕ) → slice_index g.ready.items n ≡ 0
  pub free_long : length g.free.items ≡ w.workers
  pub free : (n : ℕ) → slice_index g.free.items n ≡ 0
  pub due : g.due.keys ≡ []
  pub later : g.later.keys ≡ []
  pub now : g.now ≡ 0

-- every entry so far is the choice, what is kept follows them, and each candidate is queued
pub record Grows (w : Work) (g : Growing) : Type 0 where
  pub so_far : Schedules (graph_in w) w.workers w.priority.now g.entries.items g.waiting.items g.ready.items g.free.items g.now g.due.keys g.later.keys
  pub none : g.candidates.items ≡ []

-- the entry has left the queues, and isn't among the entries yet
pub record HasTaken (w : Work) (entry : Entry) (g : Growing) : Type 0 where
  pub now : ℕ
  pub due : List (ℕ × ℕ)
  pub later : List (ℕ × ℕ)
  pub so_far : Schedules (graph_in w) w.workers w.priority.now g.entries.items g.waiting.items g.ready.items g.free.items now due later
  pub none : g.candidates.items ≡ []
  pub takes : Takes w.costs.now w.priority.now g.free.items now due later g.now g.due.keys g.later.keys entry
