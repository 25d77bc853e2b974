-- What a job is made of. A job is one firing of one graph, expanded to its single-rate graph.
use Rattle.std.specs.Prelude.{◌≡◌, ℕ, List, map, length}
use Rattle.sdf_level.specs.View.{LevelView}
use Rattle.sdf_level.specs.Invariants.{IsLevel}
use Rattle.sdf_level.specs.Repetition.{IsRepetition}
use Rattle.sdf_level.specs.Orders.{IsTurnOrder}
use Rattle.sdf_level.specs.LevelRun.{HaveDelays}
use Rattle.sdf_level.specs.declared.node.Node.{Node}
use Rattle.sdf_level.specs.declared.single_rate.Edge.{Edge}
use Rattle.sdf_level.specs.declared.turn.Turn.{Turn}
use Rattle.single_rate.specs.Expanded.{nodes, edges}
pub use Rattle.single_rate.specs.Tiers.{node_at}

-- a level with its single-rate graph, what each source gives, and what each link holds at the start
pub record JobGraph (T : Type 0) : Type 0 where
  pub level : LevelView
  pub nodes : List Node
  pub edges : List Edge
  pub sources : List (List T)
  pub delays : List (List T)

-- the graph is that of the level with its repetition vector and its one-thread order; each source gives as many tokens as
-- its rate, and each link holds as many as its delay
pub record IsJobGraph {T : Type 0} (q : List ℕ) (turns : List Turn) (job : JobGraph T) : Type 0 where
  pub level_kept : IsLevel job.level
  pub repetition : IsRepetition job.level q
  pub order : IsTurnOrder job.level q turns
  pub nodes_are : job.nodes ≡ nodes job.level q turns
  pub edges_are : job.edges ≡ edges job.level q turns
  pub sources_fit : map length job.sources ≡ job.level.sources
  pub delays_fit : HaveDelays job.level.links job.delays
