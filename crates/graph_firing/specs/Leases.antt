-- What is lent of the nodes of a job.
use Rattle.std.specs.Prelude.{◌≡◌, ℕ, ◌+◌, ◌<◌, drop, Option, Some, None}
use Rattle.job_preparing.specs.Handing.{ItemMarks, lent_at}
use Rattle.job_rules.specs.Items.{Prepared, edges_in, nodes_in, prepared_in}
use Rattle.graph_firing.specs.Nodes.Leases.{as_nodes}
use Rattle.kernel_gate.specs.Leased.{AreWhole}
use Rattle.kernel_gate.specs.Value.{Places}
use Rattle.one_job.specs.Leased.{JobCells, LendsBuffers}
use Rattle.graph_firing.specs.View.{OpenView, answered, compilation_of, graph_in}

-- where the cells of a job lie that is compiled, stays
abbrev pub CellsStay : (before after : Option JobCells) → Type 0
CellsStay before after = (cells : JobCells) → before ≡ Some cells → after ≡ Some cells

-- where the nodes stand, and what is lent of them, by their own numbers
abbrev pub node_marks : OpenView → ItemMarks
node_marks v = drop (compilation_of v + 1) v.marks

abbrev pub node_lent : OpenView → ℕ → Option Places
node_lent v n = lent_at v.lent (compilation_of v + 1 + n)

-- the nodes and edges of a compilation are those of the job
pub record IsCompilationOf (v : OpenView) (c : JobCells) (p : Prepared) : Type 0 where
  pub nodes_are : c.compilation.graph.nodes ≡ nodes_in v.graphs.graphs (graph_in v) v.firing p
  pub edges_are : c.compilation.graph.edges ≡ edges_in v.graphs.graphs (graph_in v) v.firing p

-- of nodes that aren't there yet nothing is lent, and of those that are the leases of their buffers
pub record LendsIn (v : OpenView) (c : JobCells) : Type 0 where
  pub of_job : (p : Prepared) → prepared_in (graph_in v) (answered v) ≡ Some p → IsCompilationOf v c p
  pub lends : LendsBuffers c (as_nodes (node_marks v)) (node_lent v)

abbrev pub LendsAs : OpenView → Option JobCells → Type 0
LendsAs v None = (n : ℕ) → node_lent v n ≡ None
LendsAs v (Some c) = LendsIn v c

-- of a configuration actor blocks of its own are lent, which are no pool's, and of the compilation nothing
pub record LendsItems (v : OpenView) : Type 0 where
  pub nodes : LendsAs v v.cells
  pub actors : (i : ℕ) (places : Places) → i < compilation_of v → lent_at v.lent i ≡ Some places → AreWhole places
  pub compilation : lent_at v.lent (compilation_of v) ≡ None
