-- Actors whose numbers of ports and arguments don't fit, and parameters that aren't set as their kind says.
use Rattle.std.specs.Prelude.{ℕ, ◌==◌, ◌&&◌, Bool, true, false, List, [], ◌++◌, length, map, count_by, Option, Some, None, slice_get}
use Rattle.pisdf_model.specs.Details.{of_each, unless}
use Rattle.pisdf_model.specs.declared.actor.Body.{Body}
use Rattle.pisdf_model.specs.declared.actor.Body.TheVariants.{Kernel, Config, Child, ConfigChild}
use Rattle.pisdf_model.specs.declared.actor.Actor.{Actor}
use Rattle.pisdf_model.specs.declared.param.Param.{Param}
use Rattle.pisdf_model.specs.declared.param.ParamKind.{ParamKind}
use Rattle.pisdf_model.specs.declared.param.ParamKind.TheVariants.{Inherited, Derived, Chosen}
use Rattle.pisdf_model.specs.declared.graph.Graph.{Graph}
use Rattle.pisdf_model.specs.declared.graph.Graphs.{Graphs}

abbrev pub is_inherited : ParamKind → Bool
is_inherited Inherited = true
is_inherited (Derived expr) = false
is_inherited Chosen = false

-- how many parameters of a graph are inherited
abbrev pub inherited_count : Option Graph → ℕ
inherited_count None = 0
inherited_count (Some g) = count_by (λ p. is_inherited p.kind) g.params

-- the same of each graph
abbrev pub inherited_counts : List Graph → List ℕ
inherited_counts graphs = map (λ (g : Graph). count_by (λ p. is_inherited p.kind) g.params) graphs

-- how many exports a graph has
abbrev pub export_count : Option Graph → ℕ
export_count None = 0
export_count (Some g) = length g.exports

-- a hierarchical actor has an argument for each inherited parameter of its child, and one that is a configuration actor sets a parameter for each export of its child; of the others the kernel decides
abbrev pub body_fits : (Body → Bool) → List Graph → Body → Bool
body_fits fits graphs (Kernel kernel args ins outs) = fits (Kernel kernel args ins outs)
body_fits fits graphs (Config kernel args ins outs sets) = fits (Config kernel args ins outs sets)
body_fits fits graphs (Child k args) = length args == inherited_count (slice_get graphs k)
body_fits fits graphs (ConfigChild k args sets) = (length args == inherited_count (slice_get graphs k)) && (length sets == export_count (slice_get graphs k))

-- the places of the parameters that an actor sets
abbrev pub sets_of : Body → List ℕ
sets_of (Kernel kernel args ins outs) = []
sets_of (Config kernel args ins outs sets) = sets
sets_of (Child k args) = []
sets_of (ConfigChild k args sets) = sets

abbrev pub all_sets : List Actor → List ℕ
all_sets actors = of_each (λ a actor. sets_of actor.body) actors

-- whether a parameter may be set so often: a chosen one is set once, the others never, and the top has no inherited one
abbrev pub is_set_as_due : Bool → ParamKind → ℕ → Bool
is_set_as_due true Inherited times = false
is_set_as_due false Inherited times = times == 0
is_set_as_due is_top (Derived expr) times = times == 0
is_set_as_due is_top Chosen times = times == 1

abbrev pub actor_ports : (Body → Bool) → List Graph → Actor → List (List ℕ)
actor_ports fits graphs actor = unless (body_fits fits graphs actor.body) actor.name

abbrev pub param_ports : Bool → List ℕ → ℕ → Param → List (List ℕ)
param_ports is_top sets i p = unless (is_set_as_due is_top p.kind (count_by (λ s. s == i) sets)) p.name

-- the actors, then the parameters
abbrev pub graph_ports : (Body → Bool) → List Graph → Bool → Graph → List (List ℕ)
graph_ports fits graphs is_top g =
    of_each (λ a actor. actor_ports fits graphs actor) g.actors
    ++ of_each (λ i p. param_ports is_top (all_sets g.actors) i p) g.params

-- graph by graph; `fits` says whether the numbers of arguments, ports and sets fit an actor's kernel
abbrev pub ports_faults : (Body → Bool) → Graphs → List (List ℕ)
ports_faults fits graphs = of_each (λ n g. graph_ports fits graphs.graphs (n == graphs.top) g) graphs.graphs
