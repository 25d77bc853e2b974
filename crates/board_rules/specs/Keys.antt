-- What a board is started with.
use Rattle.std.specs.Prelude.{ℕ, ◌<◌, ◌≤◌, ℤ, List, slice_index_or}
use Rattle.kernel_gate.specs.Signed.{Counts}
use Rattle.pisdf_model.specs.declared.graph.Graphs.{Graphs}
use Rattle.pisdf_meaning.specs.Run.{top_firing}
use Rattle.kernel_gate.specs.Laws.{GiveLengths}
use Rattle.pisdf_meaning.specs.Sound.{AreValidFor}
use Rattle.pisdf_meaning.specs.declared.firing.Firing.{Firing}
use Rattle.nested_jobs.specs.Rules.{Rules}
use Rattle.job_rules.specs.Items.{job_rules, no_graph}
use Rattle.job_rules.specs.Meant.{IsFit}
use Rattle.job_rules.specs.Words.{Answer, Work}

-- graphs, signatures without their names, the state with which the top graph is fired, the tokens of its inputs, and how many
-- workers there are
pub record Key : Type 0 where
  pub graphs : Graphs
  pub signatures : List Counts
  pub delays : List (List ℤ)
  pub ins : List (List ℤ)
  pub workers : ℕ

-- the firing of the top graph
abbrev pub top_job : Key → Firing
top_job key = top_firing (slice_index_or key.graphs.graphs key.graphs.top no_graph) key.graphs.top key.ins key.delays

abbrev pub rules : Key → Rules Firing Work Answer
rules key = job_rules key.graphs.graphs

-- the graphs are valid, and their kernels fit signatures of kernels that give outputs of the lengths that
-- they are asked for; the early check of the top graph has no fault, and it is given as much as it takes
pub record IsKey (key : Key) : Type 0 where
  pub valid : AreValidFor key.signatures key.graphs
  pub lengths : GiveLengths key.signatures
  pub fit : IsFit key.graphs.graphs (top_job key)
  pub some : 0 < key.workers
  pub few : key.workers ≤ 16
