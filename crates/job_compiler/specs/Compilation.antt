-- What a compilation is, and what makes its parts those of its level.
use Rattle.std.specs.Prelude.{◌≡◌, ℕ, ◌<◌, List, map, length, slice_index, All}
use Rattle.sdf_level.specs.View.{LevelView}
use Rattle.sdf_level.specs.Invariants.{IsLevel}
use Rattle.sdf_level.specs.Limits.{IsWithinLimits}
use Rattle.sdf_level.specs.Repetition.{IsRepetition}
use Rattle.sdf_level.specs.Orders.{IsTurnOrder}
use Rattle.sdf_level.specs.declared.turn.Turn.{Turn}
use Rattle.sdf_level.specs.declared.single_rate.Edge.{Edge}
use Rattle.sdf_level.specs.declared.single_rate.SingleRate.{SingleRate}
use Rattle.single_rate.specs.Expanded.{nodes, edges}
use Rattle.single_rate.specs.Ranks.{AreRanks}
use Rattle.single_rate.specs.Sizes.{IsSmall}
use Rattle.memory_exclusion.specs.Paths.{Excludes}
use Rattle.placement_checker.specs.Placed.{Valid, Tight}
use Rattle.placement.specs.declared.placing.Placement.{Placement}
use Rattle.worker_mapping.specs.Costs.{pairs_of, AreCosts}
use Rattle.worker_mapping.specs.Graph.{graph_of, IsPriority}
use Rattle.worker_mapping.specs.Schedule.{AreHomes}
use Rattle.worker_mapping.specs.declared.mapping.Mapping.{Mapping}

-- what a compilation was made of, and its five parts
pub record Compilation : Type 0 where
  pub level : LevelView
  pub workers : ℕ
  pub counts : List ℕ
  pub order : List Turn
  pub graph : SingleRate
  pub placement : Placement
  pub mapping : Mapping

abbrev pub sizes_of : List Edge → List ℕ
sizes_of edges = map (λ (e : Edge). e.size) edges

-- edges lead from nodes to nodes of greater rank; no buffer is empty, and all together are within a fixed bound
pub record IsSound (graph : SingleRate) : Type 0 where
  pub ranked : length graph.ranks ≡ length graph.nodes
  pub ends : All (λ e. (e.tail < length graph.nodes) × (e.head < length graph.nodes)) graph.edges
  pub rising : All (λ e. slice_index graph.ranks e.tail < slice_index graph.ranks e.head) graph.edges
  pub small : IsSmall graph.nodes graph.edges

-- the single-rate graph of the level
pub record IsExpanded (level : LevelView) (counts : List ℕ) (order : List Turn) (graph : SingleRate) : Type 0 where
  pub nodes_are : graph.nodes ≡ nodes level counts order
  pub edges_are : graph.edges ≡ edges level counts order
  pub ranks : AreRanks (length graph.nodes) graph.edges graph.ranks
  pub sound : IsSound graph

-- an offset for each edge: valid and tight where edges exclude each other by the paths between them
pub record IsPlaced (edges : List Edge) (placement : Placement) : Type 0 where
  pub one_each : length placement.offsets ≡ length edges
  pub valid : Valid (sizes_of edges) (Excludes (pairs_of edges)) placement.offsets placement.height
  pub tight : Tight (sizes_of edges) (Excludes (pairs_of edges)) placement.offsets placement.height

-- the priorities and homes of the list schedule on so many workers, each node costing 1 and the sizes of its edges
pub record IsMapped (graph : SingleRate) (workers : ℕ) (mapping : Mapping) : Type 0 where
  pub costs : List ℕ
  pub are_costs : AreCosts (length graph.nodes) graph.edges costs
  pub priority : IsPriority (graph_of (length graph.nodes) (pairs_of graph.edges) costs) mapping.priority
  pub homes : AreHomes (graph_of (length graph.nodes) (pairs_of graph.edges) costs) workers mapping.priority mapping.home

-- each part is that of the level, and of the workers
pub record IsCompiled (c : Compilation) : Type 0 where
  pub level_kept : IsLevel c.level
  pub repetition : IsRepetition c.level c.counts
  pub within : IsWithinLimits c.level c.counts
  pub order_is : IsTurnOrder c.level c.counts c.order
  pub expanded : IsExpanded c.level c.counts c.order c.graph
  pub placed : IsPlaced c.graph.edges c.placement
  pub mapped : IsMapped c.graph c.workers c.mapping
