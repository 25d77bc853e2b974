-- The schedules of a graph: all that a schedule has to keep.
use Rattle.std.specs.Prelude.{◌≡◌, ℕ, ◌+◌, ◌<◌, ◌≤◌, List, All, length, slice_index}
use Rattle.worker_mapping.specs.Graph.{CostedGraph}
use Rattle.schedule_bound.specs.declared.slots.Slot.{Slot}
use Rattle.schedule_bound.specs.Slots.{slot_of, IsRunning}

-- a slot for each node, whose worker is there and which lasts as long as the node costs. No node starts before a node
-- before it ends, and no two nodes run on one worker at once.
pub record IsFeasible (graph : CostedGraph) (workers : ℕ) (slots : List Slot) : Type 0 where
  pub one_each : length slots ≡ graph.nodes
  pub workers_there : (n : ℕ) → n < graph.nodes → (slot_of slots n).worker < workers
  pub lasting : (n : ℕ) → n < graph.nodes → (slot_of slots n).end ≡ (slot_of slots n).start + slice_index graph.costs n
  pub in_order : All (λ e. (slot_of slots e.0).end ≤ (slot_of slots e.1).start) graph.edges
  pub alone : (m n time : ℕ) → m < graph.nodes → n < graph.nodes → (slot_of slots m).worker ≡ (slot_of slots n).worker
      → IsRunning (slot_of slots m) time → IsRunning (slot_of slots n) time → m ≡ n
