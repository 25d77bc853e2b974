-- The buffers of open firings, in the states that legal journals leave.
use Rattle.std.specs.Prelude.{◌≡◌, ◌≢◌, ℕ, zero, suc, ◌+◌, ◌<◌, List, [], ◌∷◌, length, Some}
use Rattle.split_block.specs.Places.{Apart}
use Rattle.job_compiler.specs.Compilation.{Compilation, IsCompiled}
use Rattle.job_preparing.specs.Handing.{ItemMarks}
use Rattle.job_rules.specs.Items.{Prepared, edges_in, graph_of, node_base, nodes_in, prepared_in}
use Rattle.job_rules.specs.Words.{Answer}
use Rattle.graph_firing.specs.Nodes.Leases.{as_nodes}
use Rattle.nested_jobs.specs.Marks.{Marks, Open, values}
use Rattle.nested_jobs.specs.Rules.{Place}
use Rattle.one_job.specs.Live.{InOrder, IsLive}
use Rattle.one_job.specs.Marks as one
use Rattle.one_job.specs.Places.{buffer_at}
use Rattle.pisdf_meaning.specs.declared.firing.Firing.{Firing}
use Rattle.board_rules.specs.Entries.{Step}
use Rattle.board_rules.specs.Keys.{IsKey, Key}
use Rattle.board_rules.specs.Legal.{AreLegal, state_after}

-- where so many items of the job at a place stand, from one on
abbrev pub marks_from : Marks Firing Answer → Place → ℕ → ℕ → ItemMarks
marks_from m place i zero = []
marks_from m place i (suc n) = m (i ∷ place) ∷ marks_from m place (i + 1) n

-- where the nodes of a firing stand whose graph was compiled to this, as a job has them
abbrev pub nodes_at : Key → Firing → Compilation → Marks Firing Answer → Place → List one.Mark
nodes_at key job c m place = as_nodes (marks_from m place (node_base (graph_of key.graphs.graphs job)) (length c.graph.nodes))

-- the firing at this place is open in the state that these steps leave, and this is a compilation of its graph, with what its
-- configuration actors gave
pub record IsOpenWith (key : Key) (taken : List Step) (place : Place) (job : Firing) (c : Compilation) : Type 0 where
  pub is_key : IsKey key
  pub legal : AreLegal key taken
  pub is_open : (state_after key taken).marks place ≡ Open job
  pub compiled : IsCompiled c
  pub prepared : Prepared
  pub prepared_is : prepared_in (graph_of key.graphs.graphs job) (values (state_after key taken).marks place) ≡ Some prepared
  pub nodes_are : c.graph.nodes ≡ nodes_in key.graphs.graphs (graph_of key.graphs.graphs job) job prepared
  pub edges_are : c.graph.edges ≡ edges_in key.graphs.graphs (graph_of key.graphs.graphs job) job prepared

-- its nodes were claimed in the order of its edges
abbrev pub FiringsKeepOrder : Type 0
FiringsKeepOrder =
    (key : Key) (taken : List Step) (place : Place) (job : Firing) (c : Compilation) → IsOpenWith key taken place job c
    → InOrder c.graph.edges (nodes_at key job c (state_after key taken).marks place)

-- and two of its buffers that are live share no cell
abbrev pub LiveBuffersOfFirings : Type 0
LiveBuffersOfFirings =
    (key : Key) (taken : List Step) (place : Place) (job : Firing) (c : Compilation) (e f : ℕ) → IsOpenWith key taken place job c
    → e < length c.graph.edges → f < length c.graph.edges → e ≢ f
    → IsLive c.graph.edges (nodes_at key job c (state_after key taken).marks place) e → IsLive c.graph.edges (nodes_at key job c (state_after key taken).marks place) f
    → Apart (buffer_at c.graph.edges c.placement.offsets e) (buffer_at c.graph.edges c.placement.offsets f)
