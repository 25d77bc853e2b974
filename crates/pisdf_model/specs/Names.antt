-- The names of a file, and those that stand twice in their scope.
use Rattle.std.specs.Prelude.{ℕ, ◌==◌, ◌&&◌, not, Bool, true, false, List, [], ◌∷◌, ◌++◌, map, take}
use Rattle.std.specs.List.{list_any}
use Rattle.std.specs.Str.{bytes_eq}
use Rattle.pisdf_model.specs.Details.{of_each, unless}
use Rattle.pisdf_model.specs.Parts.{port_names, interface_names}
use Rattle.pisdf_model.specs.declared.names.Scope.{Scope}
use Rattle.pisdf_model.specs.declared.names.Scope.TheVariants as scope
use Rattle.pisdf_model.specs.declared.names.ScopedName.{ScopedName}
use Rattle.pisdf_model.specs.declared.actor.Body.{Body}
use Rattle.pisdf_model.specs.declared.actor.Body.TheVariants.{Kernel, Config, Child, ConfigChild}
use Rattle.pisdf_model.specs.declared.actor.Actor.{Actor}
use Rattle.pisdf_model.specs.declared.graph.Graph.{Graph}
use Rattle.pisdf_model.specs.declared.graph.Graphs.{Graphs}

abbrev pub same_scope : Scope → Scope → Bool
same_scope scope.Graphs scope.Graphs = true
same_scope scope.Graphs (scope.Parts h) = false
same_scope scope.Graphs (scope.Ports h b) = false
same_scope (scope.Parts g) scope.Graphs = false
same_scope (scope.Parts g) (scope.Parts h) = g == h
same_scope (scope.Parts g) (scope.Ports h b) = false
same_scope (scope.Ports g a) scope.Graphs = false
same_scope (scope.Ports g a) (scope.Parts h) = false
same_scope (scope.Ports g a) (scope.Ports h b) = (g == h) && (a == b)

-- one of these is the name, in this scope
abbrev pub is_among : List ScopedName → Scope → List ℕ → Bool
is_among names s name = list_any (λ other. same_scope other.scope s && bytes_eq other.name name) names

-- the name with this number, where it is equal to an earlier one of its scope
abbrev pub repeat_at : List ScopedName → ℕ → ScopedName → List (List ℕ)
repeat_at names n name = unless (not (is_among (take n names) name.scope name.name)) name.name

-- the names that are equal to an earlier one of their scope
abbrev pub repeats : List ScopedName → List (List ℕ)
repeats names = of_each (λ n name. repeat_at names n name) names

-- names of one scope
abbrev pub scoped : Scope → List (List ℕ) → List ScopedName
scoped s names = map (λ name. record { scope = s; name = name }) names

-- the names of the ports that stand in the actor itself
abbrev pub own_port_names : Body → List (List ℕ)
own_port_names (Kernel kernel args ins outs) = port_names ins ++ port_names outs
own_port_names (Config kernel args ins outs sets) = ins ++ port_names outs
own_port_names (Child k args) = []
own_port_names (ConfigChild k args sets) = []

-- an actor's name, then those of its ports
abbrev pub actor_walk : ℕ → ℕ → Actor → List ScopedName
actor_walk n a actor = record { scope = scope.Parts n; name = actor.name } ∷ scoped (scope.Ports n a) (own_port_names actor.body)

-- a graph's name, then those of its parts
abbrev pub graph_walk : ℕ → Graph → List ScopedName
graph_walk n g =
    record { scope = scope.Graphs; name = g.name }
    ∷ (scoped (scope.Parts n) (map (λ p. p.name) g.params)
    ++ (scoped (scope.Parts n) (interface_names g.inputs)
    ++ (scoped (scope.Parts n) (interface_names g.outputs)
    ++ of_each (λ a actor. actor_walk n a actor) g.actors)))

-- all names of a file, in its order
abbrev pub names_of : Graphs → List ScopedName
names_of graphs = of_each (λ n g. graph_walk n g) graphs.graphs

abbrev pub duplicate_faults : Graphs → List (List ℕ)
duplicate_faults graphs = repeats (names_of graphs)
