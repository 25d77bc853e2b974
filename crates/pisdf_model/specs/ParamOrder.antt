-- The order of a graph's parameters: which depend on themselves, and which are known before its configuration actors fire.
use Rattle.std.specs.Prelude.{ℕ, ◌<◌, Bool, true, false, ◌&&◌, ◌||◌, List, [], ◌∷◌, ◌++◌, length, map, slice_index_or, All}
use Rattle.std.specs.List.{filter, flat_map, list_any, range_with_len}
use Rattle.param_expr.specs.Tree.{Tree, number, param, binary}
use Rattle.pisdf_model.specs.Arrows.{LeadsInside, leads, on_cycles}
use Rattle.pisdf_model.specs.declared.actor.Actor.{Actor}
use Rattle.pisdf_model.specs.declared.actor.Port.{Port}
use Rattle.pisdf_model.specs.declared.actor.Body.{Body}
use Rattle.pisdf_model.specs.declared.actor.Body.TheVariants.{Kernel, Config, Child, ConfigChild}
use Rattle.pisdf_model.specs.declared.graph.Graph.{Graph}
use Rattle.pisdf_model.specs.declared.graph.Graphs.{Graphs}
use Rattle.pisdf_model.specs.declared.graph.Interface.{Interface}
use Rattle.pisdf_model.specs.declared.param.Param.{Param}
use Rattle.pisdf_model.specs.declared.param.ParamKind.{ParamKind}
use Rattle.pisdf_model.specs.declared.param.ParamKind.TheVariants.{Inherited, Derived, Chosen}

-- the parameters that an expression names, from the left
abbrev pub places_of : Tree → List ℕ
places_of (number z) = []
places_of (param i) = i ∷ []
places_of (binary op a b) = places_of a ++ places_of b

-- the parameters that a parameter refers to
abbrev pub refers : ParamKind → List ℕ
refers Inherited = []
refers (Derived expr) = places_of expr
refers Chosen = []

-- what each parameter refers to
abbrev pub references : Graph → List (List ℕ)
references g = map (λ (p : Param). refers p.kind) g.params

abbrev pub is_chosen_kind : ParamKind → Bool
is_chosen_kind Inherited = false
is_chosen_kind (Derived expr) = false
is_chosen_kind Chosen = true

abbrev pub is_chosen : Graph → ℕ → Bool
is_chosen g place = slice_index_or (map (λ (p : Param). is_chosen_kind p.kind) g.params) place false

-- references end at a chosen parameter, or come back without end
abbrev pub ends_late : Graph → ℕ → Bool
ends_late g place = is_chosen g place || leads (references g) place place

-- a parameter is early where it is inherited, or derived from early ones alone: so it is late where it is chosen, or references lead from it to a chosen one or on without end
unfoldable pub is_late : Graph → ℕ → Bool
is_late g place = ends_late g place || list_any (λ q. ends_late g q && leads (references g) place q) (range_with_len 0 (length g.params))

abbrev pub config_places : Body → List ℕ
config_places (Kernel kernel args ins outs) = []
config_places (Config kernel args ins outs sets) = flat_map places_of args ++ flat_map (λ (port : Port). places_of port.rate) outs
config_places (Child graph args) = []
config_places (ConfigChild graph args sets) = flat_map places_of args

-- the parameters that must be early, in the order in which the file names them: those of the interfaces' rates, and of the arguments and output rates of configuration actors
abbrev pub early_places : Graph → List ℕ
early_places g =
    flat_map (λ (i : Interface). places_of i.rate) g.inputs
    ++ (flat_map (λ (i : Interface). places_of i.rate) g.outputs
    ++ flat_map (λ (a : Actor). config_places a.body) g.actors)

-- the parameters that depend on themselves, then those that are late and must be early
abbrev pub misplaced : Graph → List ℕ
misplaced g = on_cycles (references g) ++ filter (is_late g) (early_places g)

abbrev pub param_name : Graph → ℕ → List ℕ
param_name g place = slice_index_or (map (λ (p : Param). p.name) g.params) place []

-- their names
abbrev pub order_faults : Graph → List (List ℕ)
order_faults g = map (param_name g) (misplaced g)

-- the same, graph by graph
abbrev pub param_order_faults : Graphs → List (List ℕ)
param_order_faults graphs = flat_map order_faults graphs.graphs

-- each parameter that one of these expressions names is there
pub record RefersToParams (g : Graph) : Type 0 where
  pub derived : LeadsInside (references g)
  pub early : All (λ place. place < length g.params) (early_places g)
