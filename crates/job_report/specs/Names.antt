-- The names of the parts of a level, which are those of its graph.
use Rattle.std.specs.Prelude.{ℕ, List, [], ◌∷◌, ◌++◌, map, if◌then◌else◌}
use Rattle.std.specs.List.{flat_map}
use Rattle.param_resolver.specs.Numbering.{feeds_configuration}
use Rattle.pisdf_model.specs.Details.{of_each}
use Rattle.pisdf_model.specs.InterfaceWires.{is_configuration}
use Rattle.pisdf_model.specs.Parts.{interface_names, output_names}
use Rattle.pisdf_model.specs.Wires.{port_text}
use Rattle.pisdf_model.specs.declared.actor.Actor.{Actor}
use Rattle.pisdf_model.specs.declared.graph.Graph.{Graph}
use Rattle.pisdf_model.specs.declared.graph.Interface.{Interface}
use Rattle.job_report.specs.declared.names.JobNames.{JobNames}

-- an actor is one of the level, unless it is a configuration actor
abbrev pub actor_name : Actor → List (List ℕ)
actor_name actor = if is_configuration actor.body then [] else actor.name ∷ []

abbrev pub actor_names : Graph → List (List ℕ)
actor_names g = flat_map (λ (actor : Actor). actor_name actor) g.actors

-- an input is a source, unless it feeds a configuration actor
abbrev pub input_source : Graph → ℕ → Interface → List (List ℕ)
input_source g i input = if feeds_configuration g i then [] else input.name ∷ []

abbrev pub input_sources : Graph → List (List ℕ)
input_sources g = of_each (λ i (input : Interface). input_source g i input) g.inputs

-- and so is each output of a configuration actor, with the actor's name before it
abbrev pub output_sources : List Graph → Actor → List (List ℕ)
output_sources graphs actor = if is_configuration actor.body then map (port_text actor.name) (output_names graphs actor.body) else []

abbrev pub source_names : List Graph → Graph → List (List ℕ)
source_names graphs g = input_sources g ++ flat_map (λ (actor : Actor). output_sources graphs actor) g.actors

-- the names of the actors, sources and sinks of a graph's level, by their numbers there
abbrev pub names_of : List Graph → Graph → JobNames
names_of graphs g = record { actors = actor_names g; sources = source_names graphs g; sinks = interface_names g.outputs }
