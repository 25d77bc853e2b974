-- The parts of a graph.
use Rattle.std.specs.Prelude.{ℕ, ◌+◌, List, [], map, length, Option, Some, None, slice_get}
use Rattle.pisdf_model.specs.declared.actor.Port.{Port}
use Rattle.pisdf_model.specs.declared.actor.Body.{Body}
use Rattle.pisdf_model.specs.declared.actor.Body.TheVariants.{Kernel, Config, Child, ConfigChild}
use Rattle.pisdf_model.specs.declared.graph.Interface.{Interface}
use Rattle.pisdf_model.specs.declared.graph.Graph.{Graph}

abbrev pub port_names : List Port → List (List ℕ)
port_names ports = map (λ p. p.name) ports

abbrev pub interface_names : List Interface → List (List ℕ)
interface_names interfaces = map (λ x. x.name) interfaces

abbrev pub inputs_of : Option Graph → List Interface
inputs_of None = []
inputs_of (Some g) = g.inputs

abbrev pub outputs_of : Option Graph → List Interface
outputs_of None = []
outputs_of (Some g) = g.outputs

-- the names of an actor's inputs; those of a hierarchical actor are its child's
abbrev pub input_names : List Graph → Body → List (List ℕ)
input_names graphs (Kernel kernel args ins outs) = port_names ins
input_names graphs (Config kernel args ins outs sets) = ins
input_names graphs (Child k args) = interface_names (inputs_of (slice_get graphs k))
input_names graphs (ConfigChild k args sets) = interface_names (inputs_of (slice_get graphs k))

abbrev pub output_names : List Graph → Body → List (List ℕ)
output_names graphs (Kernel kernel args ins outs) = port_names outs
output_names graphs (Config kernel args ins outs sets) = port_names outs
output_names graphs (Child k args) = interface_names (outputs_of (slice_get graphs k))
output_names graphs (ConfigChild k args sets) = interface_names (outputs_of (slice_get graphs k))

-- how many inputs an actor has
abbrev pub input_count : List Graph → Body → ℕ
input_count graphs body = length (input_names graphs body)

-- how many inputs and outputs
abbrev pub port_count : List Graph → Body → ℕ
port_count graphs body = input_count graphs body + length (output_names graphs body)
