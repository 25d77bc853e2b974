-- The edges of a graph by their nodes.
use Rattle.std.specs.Prelude.{◌≡◌, ℕ, ◌<◌, ◌==◌, List, [], filter, length, slice_index_or}
use Rattle.sdf_level.specs.Lists.{lists_of}
use Rattle.sdf_level.specs.declared.single_rate.Edge.{Edge}
use Rattle.audit_job.specs.Flowing.{flow_of}
use Rattle.audit_job.specs.declared.job.Nodes.{Nodes}
use Rattle.audit_job.specs.declared.rows.Side.{Side}
use Rattle.audit_job.specs.declared.rows.Side.TheVariants.{Tail, Head}

-- the node at an end of an edge
abbrev pub end_of : Side → Edge → ℕ
end_of Tail e = e.tail
end_of Head e = e.head

-- a list for each of so many nodes: the edges that have it at this end, in their order
pub record AreRows (side : Side) (nodes : ℕ) (edges : List Edge) (lists : List (List Edge)) : Type 0 where
  pub one_each : length lists ≡ nodes
  pub each : (n : ℕ) → n < nodes → slice_index_or lists n [] ≡ filter (λ (e : Edge). end_of side e == n) edges

-- for each node the edges into it and those out of it
pub record HasRows (job : Nodes) : Type 0 where
  pub into : AreRows Head (length (flow_of job).nodes) (flow_of job).edges (lists_of job.into.items)
  pub out_of : AreRows Tail (length (flow_of job).nodes) (flow_of job).edges (lists_of job.out_of.items)
