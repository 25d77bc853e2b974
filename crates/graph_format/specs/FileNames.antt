-- The names of a file, in its order, with their scopes.
use Rattle.std.specs.Prelude.{ℕ, List, [], ◌∷◌, ◌++◌}
use Rattle.pisdf_model.specs.Details.{of_each}
use Rattle.pisdf_model.specs.Names.{scoped}
use Rattle.pisdf_model.specs.declared.names.Scope.TheVariants as scope
use Rattle.pisdf_model.specs.declared.names.ScopedName.{ScopedName}
use Rattle.graph_format.specs.KnownNames.{names_of_params, file_port_names}
use Rattle.graph_format.specs.declared.actor.FileActor.{FileActor}
use Rattle.graph_format.specs.declared.actor.FileBody.{FileBody}
use Rattle.graph_format.specs.declared.actor.FileBody.TheVariants.{Kernel, Config, Child, ConfigChild}
use Rattle.graph_format.specs.declared.file.File.{File}
use Rattle.graph_format.specs.declared.file.FileGraph.{FileGraph}

-- the names of the ports that stand in the actor itself
abbrev pub own_port_names : FileBody → List (List ℕ)
own_port_names (Kernel kernel args ins outs) = file_port_names ins ++ file_port_names outs
own_port_names (Config kernel args ins outs sets) = ins ++ file_port_names outs
own_port_names (Child graph args) = []
own_port_names (ConfigChild graph args sets) = []

-- an actor's name, then those of its ports
abbrev pub actor_walk : ℕ → ℕ → FileActor → List ScopedName
actor_walk n a actor = record { scope = scope.Parts n; name = actor.name } ∷ scoped (scope.Ports n a) (own_port_names actor.body)

-- a graph's name, then those of its parts
abbrev pub graph_walk : ℕ → FileGraph → List ScopedName
graph_walk n g =
    record { scope = scope.Graphs; name = g.name }
    ∷ (scoped (scope.Parts n) (names_of_params g.params)
    ++ (scoped (scope.Parts n) (file_port_names g.inputs)
    ++ (scoped (scope.Parts n) (file_port_names g.outputs)
    ++ of_each (λ a actor. actor_walk n a actor) g.actors)))

-- all names of a file, but for its top
abbrev pub names_of_file : File → List ScopedName
names_of_file file = of_each (λ n g. graph_walk n g) file.graphs
