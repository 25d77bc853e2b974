-- What the parts of a graph can refer to by name.
use Rattle.std.specs.Prelude.{ℕ, List, [], ◌++◌, map, slice_index_or, Option, Some, None}
use Rattle.param_expr.specs.Bind.{place_of}
use Rattle.graph_format.specs.declared.actor.FileActor.{FileActor}
use Rattle.graph_format.specs.declared.actor.FileBody.{FileBody}
use Rattle.graph_format.specs.declared.actor.FileBody.TheVariants.{Kernel, Config, Child, ConfigChild}
use Rattle.graph_format.specs.declared.file.FileGraph.{FileGraph}
use Rattle.graph_format.specs.declared.param.FileParam.{FileParam}
use Rattle.graph_format.specs.declared.port.FilePort.{FilePort}

abbrev pub file_port_names : List FilePort → List (List ℕ)
file_port_names ports = map (λ (p : FilePort). p.name) ports

abbrev pub names_of_params : List FileParam → List (List ℕ)
names_of_params params = map (λ (p : FileParam). p.name) params

abbrev pub names_of_actors : List FileActor → List (List ℕ)
names_of_actors actors = map (λ (a : FileActor). a.name) actors

abbrev pub names_of_graphs : List FileGraph → List (List ℕ)
names_of_graphs graphs = map (λ (g : FileGraph). g.name) graphs

-- a graph's inputs, then its outputs
abbrev pub interfaces_of : FileGraph → List (List ℕ)
interfaces_of g = file_port_names g.inputs ++ file_port_names g.outputs

-- the list at that place, and no names where there is no place
abbrev pub names_at : List (List (List ℕ)) → Option ℕ → List (List ℕ)
names_at lists None = []
names_at lists (Some i) = slice_index_or lists i []

-- the interfaces of the first graph of that name
abbrev pub interfaces_named : List FileGraph → List ℕ → List (List ℕ)
interfaces_named graphs w = names_at (map interfaces_of graphs) (place_of (names_of_graphs graphs) w)

-- An actor's inputs, then its outputs. Those of a hierarchical actor are its child's.
abbrev pub ports_of : List FileGraph → FileBody → List (List ℕ)
ports_of graphs (Kernel kernel args ins outs) = file_port_names ins ++ file_port_names outs
ports_of graphs (Config kernel args ins outs sets) = ins ++ file_port_names outs
ports_of graphs (Child graph args) = interfaces_named graphs graph
ports_of graphs (ConfigChild graph args sets) = interfaces_named graphs graph

-- The names that a part of a graph can refer to: those of the graphs of the file and of the kernels; of the graph's
-- parameters, interfaces and actors; and, for each of its actors, of the actor's ports.
pub record KnownNames : Type 0 where
  pub graphs : List (List ℕ)
  pub kernels : List (List ℕ)
  pub params : List (List ℕ)
  pub interfaces : List (List ℕ)
  pub actors : List (List ℕ)
  pub ports : List (List (List ℕ))

-- the names that the parts of this graph can refer to
abbrev pub known_names : List (List ℕ) → List FileGraph → FileGraph → KnownNames
known_names kernels graphs g = record {
  graphs = names_of_graphs graphs;
  kernels = kernels;
  params = names_of_params g.params;
  interfaces = interfaces_of g;
  actors = names_of_actors g.actors;
  ports = map (λ (a : FileActor). ports_of graphs a.body) g.actors;
}
