-- Laws of the meaning of a graph.
use Rattle.std.specs.Prelude.{◌≡◌, ℕ, ◌<◌, ℤ, List, [], length}
use Rattle.param_resolver.specs.EarlyCheck.{early_faults}
use Rattle.pisdf_model.specs.declared.graph.Graph.{Graph}
use Rattle.pisdf_model.specs.declared.graph.Graphs.{Graphs}
use Rattle.pisdf_meaning.specs.Endings.{End}
use Rattle.pisdf_meaning.specs.Meaning.{Means}
use Rattle.pisdf_meaning.specs.Run.{IsRun, Run}
use Rattle.pisdf_meaning.specs.declared.firing.Firing.{Firing}

-- a firing of a graph doesn't end in two ways
abbrev pub HasOneMeaning : List Graph → Type 0
HasOneMeaning graphs = (firing : Firing) (one other : End) → Means graphs firing one → Means graphs firing other → one ≡ other

-- nor does a run over these streams
abbrev pub HasOneRun : Graphs → Type 0
HasOneRun graphs = (streams : List (List ℤ)) (iterations : ℕ) (one other : Run) → IsRun graphs streams iterations one → IsRun graphs streams iterations other → one ≡ other

-- a firing of a graph that is there, in which its early check finds nothing
pub record CanBeFired (graphs : List Graph) (firing : Firing) : Type 0 where
  pub there : firing.graph < length graphs
  pub sound : early_faults graphs firing.graph firing.inherited ≡ []

-- each such firing ends
abbrev pub HasMeanings : List Graph → Type 0
HasMeanings graphs = (firing : Firing) → CanBeFired graphs firing → (end : End) × Means graphs firing end

-- and so does a run over any streams
abbrev pub HasRuns : Graphs → Type 0
HasRuns graphs = (streams : List (List ℤ)) (iterations : ℕ) → (run : Run) × IsRun graphs streams iterations run
