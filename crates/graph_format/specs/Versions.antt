-- What stands only in files of version 3.
use Rattle.std.specs.Prelude.{◌≡◌, ℕ, ◌≤◌, ◌⊎◌, [], All}
use Rattle.graph_format.specs.declared.actor.FileActor.{FileActor}
use Rattle.graph_format.specs.declared.actor.FileBody.{FileBody}
use Rattle.graph_format.specs.declared.actor.FileBody.TheVariants.{Kernel, Config, Child, ConfigChild}
use Rattle.graph_format.specs.declared.file.File.{File}
use Rattle.graph_format.specs.declared.file.FileGraph.{FileGraph}

abbrev pub IsBodyOf : ℕ → FileBody → Type 0
IsBodyOf version (Kernel kernel args ins outs) = Unit {0}
IsBodyOf version (Config kernel args ins outs sets) = Unit {0}
IsBodyOf version (Child graph args) = Unit {0}
IsBodyOf version (ConfigChild graph args sets) = version ≡ 3

abbrev pub IsActorOf : ℕ → FileActor → Type 0
IsActorOf version actor = IsBodyOf version actor.body

pub record IsGraphOf (version : ℕ) (graph : FileGraph) : Type 0 where
  pub actors : All (IsActorOf version) graph.actors
  pub exporting : (version ≡ 3) ⊎ (graph.exports ≡ [])

-- the file is of one of the versions, and nothing stands in it that the version doesn't have
pub record IsOfVersion (file : File) : Type 0 where
  pub first_version : 1 ≤ file.version
  pub last_version : file.version ≤ 3
  pub graphs : All (IsGraphOf file.version) file.graphs
