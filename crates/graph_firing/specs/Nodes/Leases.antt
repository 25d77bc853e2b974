-- What is lent of the nodes of a running firing.
use Rattle.std.specs.Prelude.{◌≡◌, List, [], map}
use Rattle.job_preparing.specs.Handing.{ItemMarks, lent_at}
use Rattle.job_rules.specs.Words as words
use Rattle.job_rules.specs.Words.{Answer}
use Rattle.nested_jobs.specs.Marks.{Mark, Free, Busy, Open, Done}
use Rattle.one_job.specs.Leased.{LendsBuffers}
use Rattle.one_job.specs.Marks as one
use Rattle.pisdf_meaning.specs.declared.firing.Firing.{Firing}
use Rattle.graph_firing.specs.Nodes.View.{RunningView, job_of}

-- A node that has called a job is claimed until that job is closed. What a mark tells beside that is left out.
abbrev pub answer_as_node : Answer → one.Mark
answer_as_node (words.Gives given) = one.Finished []
answer_as_node (words.Schedules schedule) = one.Finished []
answer_as_node (words.Refuses refusal) = one.Failed 0

abbrev pub as_node : Mark Firing Answer → one.Mark
as_node Free = one.Free
as_node Busy = one.Claimed one.nowhere
as_node (Open job) = one.Claimed one.nowhere
as_node (Done answer) = answer_as_node answer

abbrev pub as_nodes : ItemMarks → List one.Mark
as_nodes marks = map as_node marks

-- the nodes and edges are those of the compilation, and what is lent are the leases of their buffers
pub record LendsNodes (v : RunningView) : Type 0 where
  pub nodes_are : v.cells.compilation.graph.nodes ≡ (job_of v).nodes
  pub edges_are : v.cells.compilation.graph.edges ≡ (job_of v).edges
  pub lends : LendsBuffers v.cells (as_nodes v.marks) (lent_at v.lent)
