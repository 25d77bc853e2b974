-- What the nodes of a job have at its start.
use Rattle.std.specs.Prelude.{◌≡◌, ℕ, ℤ, ◌<◌, List, [], length, replicate, slice_index_or, Option, None}
use Rattle.sdf_level.specs.declared.node.Node.{Node}
use Rattle.sdf_level.specs.declared.node.Node.TheVariants as node
use Rattle.sdf_level.specs.declared.single_rate.Edge.{Edge}
use Rattle.job_compiler.specs.Compilation.{Compilation}
use Rattle.job_compiler.specs.Wired.{entering}
use Rattle.job_flow.specs.Graphs.{node_at}
use Rattle.one_job.specs.Ports.{port_size, row_of}
use Rattle.one_job.specs.Stock.{IsStock}
use Rattle.one_job.specs.declared.starting.FirstTokens.{FirstTokens}

-- the tokens that a Source or an Init reads
abbrev pub stored_in : List (List ℤ) → List (List ℤ) → Node → List ℤ
stored_in sources stored (node.Source s) = slice_index_or sources s []
stored_in sources stored (node.Init l) = slice_index_or stored l []
stored_in sources stored (node.Firing a k) = []
stored_in sources stored (node.End l) = []
stored_in sources stored (node.Sink t) = []
stored_in sources stored (node.Broadcast l) = []
stored_in sources stored (node.Fork l i) = []
stored_in sources stored (node.Join l k) = []
stored_in sources stored (node.Round l) = []

-- no node stands twice in the list
abbrev pub StandOnce : List Node → Type 0
StandOnce nodes = (m n : ℕ) → m < length nodes → n < length nodes → node_at nodes m ≡ node_at nodes n → m ≡ n

-- for each node what lies ready for it; an End or a Sink writes as many tokens as the edge at its one port has
pub record AreMade (nodes : List Node) (edges : List Edge) (entering : List (List (Option ℕ))) (sources stored : List (List ℤ)) (stock : List (List ℤ)) : Type 0 where
  pub one_each : length stock ≡ length nodes
  pub each : (n : ℕ) → n < length nodes
      → IsStock (node_at nodes n) (stored_in sources stored (node_at nodes n)) (port_size edges (slice_index_or (row_of entering n) 0 None)) (slice_index_or stock n [])

-- what lies ready, and none that sinks keep or that are left on links
pub record AreFirstTokens (c : Compilation) (sources stored : List (List ℤ)) (tokens : FirstTokens) : Type 0 where
  pub stock : AreMade c.graph.nodes c.graph.edges (entering c.level c.graph) sources stored tokens.stock.items
  pub outs : tokens.outs.items ≡ replicate (length c.level.sinks) []
  pub left : tokens.left.items ≡ replicate (length c.level.links) []
