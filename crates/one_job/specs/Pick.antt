-- Which of the nodes that may be claimed a worker is handed.
use Rattle.std.specs.Prelude.{◌≡◌, ℕ, ◌<◌, ◌⊎◌, ◌==◌, Bool, false, Option, Some, None, List, is_none, slice_index, slice_index_or, if◌then◌else◌}
use Rattle.sdf_level.specs.declared.node.Node.{Node}
use Rattle.sdf_level.specs.declared.node.Node.TheVariants as node
use Rattle.worker_mapping.specs.Schedule.{GoesFirst}
use Rattle.worker_mapping.specs.declared.mapping.Mapping.{Mapping}
use Rattle.job_flow.specs.Graphs.{node_at}
use Rattle.one_job.specs.View.{JobView, IsEnabled}

-- 0 where the worker is the node's home, else 1
abbrev pub away : Mapping → ℕ → ℕ → ℕ
away mapping worker n = if slice_index mapping.home n == worker then 0 else 1

-- those at home go first, then those of greater priority, then those of lesser number
abbrev pub GoesBefore : Mapping → ℕ → ℕ → ℕ → Type 0
GoesBefore mapping worker n m =
    (away mapping worker n < away mapping worker m)
    ⊎ ((away mapping worker n ≡ away mapping worker m) × GoesFirst mapping.priority n m)

-- the node on offer that goes before every node on offer, or none where none is on offer
abbrev pub IsFirst : Mapping → ℕ → (ℕ → Type 0) → Option ℕ → Type 0
IsFirst mapping worker Offered None = (n : ℕ) → Offered n → ⊥
IsFirst mapping worker Offered (Some n) = Offered n × ((m : ℕ) → Offered m → GoesBefore mapping worker n m)

-- a firing of an actor that has no kernel is a job of its own
abbrev pub is_child_in : List (Option ℕ) → Node → Bool
is_child_in kinds (node.Source s) = false
is_child_in kinds (node.Init l) = false
is_child_in kinds (node.Firing a k) = is_none (slice_index_or kinds a None)
is_child_in kinds (node.End l) = false
is_child_in kinds (node.Sink t) = false
is_child_in kinds (node.Broadcast l) = false
is_child_in kinds (node.Fork l i) = false
is_child_in kinds (node.Join l k) = false
is_child_in kinds (node.Round l) = false

abbrev pub is_child : JobView → ℕ → Bool
is_child j n = is_child_in j.kinds (node_at j.compilation.graph.nodes n)

-- a node that may be claimed, and is a job of its own or isn't
pub record IsOffered (j : JobView) (child : Bool) (n : ℕ) : Type 0 where
  pub enabled : IsEnabled j n
  pub sort : is_child j n ≡ child
