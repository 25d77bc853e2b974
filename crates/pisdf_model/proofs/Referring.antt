-- In graphs whose numbers are in range, each actor names graphs that are there, and each expression parameters that are there.
use Rattle.std.proofs.Common.{◌==◌, ℕ, ◌<◌, List, [], ◌∷◌, ◌++◌, length, Bool, sym, subst}
use Rattle.std.specs.Prelude.{slice_index_or}
use Rattle.std.specs.List.{All, flat_map}
use Rattle.std.proofs.lemmas.List.{length-map}
use Rattle.std.proofs.lemmas.List.Elements.{All-nil, All-cons, All-head, All-tail, All-append, All-map, All-weaker}
use Rattle.param_expr.specs.Tree.{Tree, number, param, binary}
use Rattle.param_expr.specs.Eval.{RefersBelow}
use Rattle.pisdf_model.specs.Arrows.{LeadsInside}
use Rattle.pisdf_model.specs.Nesting.{RefersToGraphs, children, children_of}
use Rattle.pisdf_model.specs.ParamOrder.{RefersToParams, config_places, early_places, places_of, references, refers}
use Rattle.pisdf_model.specs.Range.{InRange, IsActorInRange, IsBodyInRange, IsGraphInRange, IsInterfaceInRange, IsKindInRange, IsParamInRange, IsPortInRange}
use Rattle.pisdf_model.specs.declared.actor.Actor.{Actor}
use Rattle.pisdf_model.specs.declared.actor.Body.{Body}
use Rattle.pisdf_model.specs.declared.actor.Body.TheVariants.{Kernel, Config, Child, ConfigChild}
use Rattle.pisdf_model.specs.declared.actor.Port.{Port}
use Rattle.pisdf_model.specs.declared.param.Param.{Param}
use Rattle.pisdf_model.specs.declared.param.ParamKind.{ParamKind}
use Rattle.pisdf_model.specs.declared.param.ParamKind.TheVariants.{Inherited, Derived, Chosen}
use Rattle.pisdf_model.specs.declared.graph.Interface.{Interface}
use Rattle.pisdf_model.specs.declared.graph.Graph.{Graph}
use Rattle.pisdf_model.specs.declared.graph.Graphs.{Graphs}

-- all of these are below n
abbrev AreBelow : ℕ → List ℕ → Type 0
AreBelow n places = All (λ i. i < n) places

-- what each part names, in one list
of_all : {A : Type 0} (n : ℕ) (f : A → List ℕ) (Q : A → Type 0) → ((x : A) → Q x → AreBelow n (f x)) → (xs : List A) → All Q xs → AreBelow n (flat_map f xs)
of_all n f Q each [] all = All-nil (λ i. i < n)
of_all n f Q each (x ∷ xs) all = All-append (λ i. i < n) (f x) (flat_map f xs) (each x (All-head Q x xs all)) (of_all n f Q each xs (All-tail Q x xs all))

-- ---- parameters

places_below : (n : ℕ) (e : Tree) → RefersBelow n e → AreBelow n (places_of e)
places_below n (number z) below = All-nil (λ i. i < n)
places_below n (param i) below = All-cons (λ i. i < n) i [] below (All-nil (λ i. i < n))
places_below n (binary op a b) below = All-append (λ i. i < n) (places_of a) (places_of b) (places_below n a below.0) (places_below n b below.1)

refers_below : (n : ℕ) (kind : ParamKind) → IsKindInRange n kind → AreBelow n (refers kind)
refers_below n Inherited range = All-nil (λ i. i < n)
refers_below n (Derived expr) range = places_below n expr range
refers_below n Chosen range = All-nil (λ i. i < n)

port_below : (n : ℕ) (port : Port) → IsPortInRange n port → AreBelow n (places_of port.rate)
port_below n port range = places_below n port.rate range

interface_below : (n : ℕ) (interface : Interface) → IsInterfaceInRange n interface → AreBelow n (places_of interface.rate)
interface_below n interface range = places_below n interface.rate range

config_below : (version graphs n : ℕ) (body : Body) → IsBodyInRange version graphs n body → AreBelow n (config_places body)
config_below version graphs n (Kernel kernel args ins outs) range = All-nil (λ i. i < n)
config_below version graphs n (Config kernel args ins outs sets) range =
    All-append (λ i. i < n) (flat_map places_of args) (flat_map (λ (port : Port). places_of port.rate) outs)
    (of_all n places_of (RefersBelow n) (places_below n) args range.0)
    (of_all n (λ (port : Port). places_of port.rate) (IsPortInRange n) (port_below n) outs range.1)
config_below version graphs n (Child graph args) range = All-nil (λ i. i < n)
config_below version graphs n (ConfigChild graph args sets) range = of_all n places_of (RefersBelow n) (places_below n) args range.2

actor_below : (version graphs n : ℕ) (actor : Actor) → IsActorInRange version graphs n actor → AreBelow n (config_places actor.body)
actor_below version graphs n actor range = config_below version graphs n actor.body range

module _ (version : ℕ) (graphs : List Graph) (is_top : Bool) (g : Graph) (range : IsGraphInRange version graphs is_top g) where
  abbrev n : ℕ
  n = length g.params

  references_inside : LeadsInside (references g)
  references_inside =
      subst (λ m. All (AreBelow m) (references g)) (sym (length-map g.params (λ (p : Param). refers p.kind)))
      (All-map (AreBelow n) (λ (p : Param). refers p.kind) g.params (All-weaker (IsParamInRange n) (λ (p : Param). AreBelow n (refers p.kind)) (λ p in_range. refers_below n p.kind in_range) g.params range.params))

  early_inside : AreBelow n (early_places g)
  early_inside =
      let at_interface : Interface → List ℕ = λ (i : Interface). places_of i.rate in
      let at_actor : Actor → List ℕ = λ (a : Actor). config_places a.body in
      All-append (λ i. i < n) (flat_map at_interface g.inputs) (flat_map at_interface g.outputs ++ flat_map at_actor g.actors)
      (of_all n at_interface (IsInterfaceInRange n) (interface_below n) g.inputs range.inputs)
      (All-append (λ i. i < n) (flat_map at_interface g.outputs) (flat_map at_actor g.actors)
      (of_all n at_interface (IsInterfaceInRange n) (interface_below n) g.outputs range.outputs)
      (of_all n at_actor (IsActorInRange version (length graphs) n) (actor_below version (length graphs) n) g.actors range.actors))

  refers_to_params : RefersToParams g
  refers_to_params = record { derived = references_inside; early = early_inside }

pub each_refers_to_params : (graphs : Graphs) → InRange graphs → All (λ (g : Graph). RefersToParams g) graphs.graphs
each_refers_to_params graphs range k d below = refers_to_params graphs.version graphs.graphs (k == graphs.top) (slice_index_or graphs.graphs k d) (range.each_graph k d below)

-- ---- graphs

child_below : (version n params : ℕ) (body : Body) → IsBodyInRange version n params body → AreBelow n (children_of body)
child_below version n params (Kernel kernel args ins outs) range = All-nil (λ i. i < n)
child_below version n params (Config kernel args ins outs sets) range = All-nil (λ i. i < n)
child_below version n params (Child graph args) range = All-cons (λ i. i < n) graph [] range.0 (All-nil (λ i. i < n))
child_below version n params (ConfigChild graph args sets) range = All-cons (λ i. i < n) graph [] range.1 (All-nil (λ i. i < n))

children_below : (version : ℕ) (graphs : List Graph) (is_top : Bool) (g : Graph) → IsGraphInRange version graphs is_top g → AreBelow (length graphs) (children g)
children_below version graphs is_top g range =
    of_all (length graphs) (λ (a : Actor). children_of a.body) (IsActorInRange version (length graphs) (length g.params)) (λ a in_range. child_below version (length graphs) (length g.params) a.body in_range) g.actors range.actors

pub refers_to_graphs : (graphs : Graphs) → InRange graphs → RefersToGraphs graphs
refers_to_graphs graphs range k d below = children_below graphs.version graphs.graphs (k == graphs.top) (slice_index_or graphs.graphs k d) (range.each_graph k d below)
