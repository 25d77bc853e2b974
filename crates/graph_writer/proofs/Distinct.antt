-- In graphs without a repeated name, no two parts of a graph have one name.
use Rattle.std.proofs.Common.{◌≡◌, ℕ, ◌<◌, List, [], ◌∷◌, ◌++◌, map, length, get_or, refl, sym, ap, subst, arith, append_assoc}
use Rattle.std.proofs.lemmas.List.{map-append}
use Rattle.param_expr.specs.Print.{Differ}
use Rattle.pisdf_model.proofs.Distinct.{Apart, apart_at, apart_first, apart_left, apart_names, apart_of, apart_right, differ, in_scope}
use Rattle.pisdf_model.specs.Details.{of_each}
use Rattle.pisdf_model.specs.Names.{scoped, own_port_names, actor_walk, graph_walk, names_of, duplicate_faults}
use Rattle.pisdf_model.specs.Parts.{interface_names}
use Rattle.pisdf_model.specs.declared.actor.Actor.{Actor}
use Rattle.pisdf_model.specs.declared.graph.Graph.{Graph}
use Rattle.pisdf_model.specs.declared.graph.Graphs.{Graphs}
use Rattle.pisdf_model.specs.declared.param.Param.{Param}
use Rattle.pisdf_model.specs.declared.names.Scope.TheVariants as scope
use Rattle.pisdf_model.specs.declared.names.ScopedName.{ScopedName}
use Rattle.graph_format.specs.Named.{names_of_params, names_of_actors, names_of_interfaces, names_of_graphs}

-- no two parameters of a graph have one name, nor two interfaces, two actors or two ports of an actor
pub record PartsDiffer (g : Graph) : Type 0 where
  pub params : Differ (names_of_params g)
  pub interfaces : Differ (names_of_interfaces g)
  pub actors : Differ (names_of_actors g)
  pub ports : (a : ℕ) (d : Actor) → a < length g.actors → Differ (own_port_names (get_or g.actors a d).body)

parts_differ : (n : ℕ) (g : Graph) → Apart (graph_walk n g) → PartsDiffer g
parts_differ n g h =
    let s = scope.Parts n in
    let params = scoped s (map (λ (p : Param). p.name) g.params) in
    let inputs = scoped s (interface_names g.inputs) in
    let outputs = scoped s (interface_names g.outputs) in
    let actors = of_each (λ a actor. actor_walk n a actor) g.actors in
    let from_inputs : Apart (inputs ++ (outputs ++ actors)) = apart_right params (inputs ++ (outputs ++ actors)) h.1 in
    let interfaces : Apart (inputs ++ outputs) = apart_left (inputs ++ outputs) actors (subst Apart (sym (append_assoc inputs outputs actors)) from_inputs) in
    let walks : Apart actors = apart_right outputs actors (apart_right inputs (outputs ++ actors) from_inputs) in
    record {
      params = differ s (names_of_params g) (apart_left params (inputs ++ (outputs ++ actors)) h.1);
      interfaces = differ s (names_of_interfaces g) (subst Apart (sym (map-append (in_scope s) (interface_names g.inputs) (interface_names g.outputs))) interfaces);
      actors = differ s (names_of_actors g) (apart_names n g.actors walks);
      ports = λ a d inside. differ (scope.Ports n a) (own_port_names (get_or g.actors a d).body) (apart_at (λ a actor. actor_walk n a actor) 0 g.actors a a d (omega arith) inside walks).1;
    }

pub record AllDiffer (graphs : Graphs) : Type 0 where
  pub names : Differ (names_of_graphs graphs)
  pub parts : (n : ℕ) (d : Graph) → n < length graphs.graphs → PartsDiffer (get_or graphs.graphs n d)

-- in graphs without a repeated name
pub all_differ : (graphs : Graphs) → duplicate_faults graphs ≡ [] → AllDiffer graphs
all_differ graphs none =
    let apart = apart_of (names_of graphs) none in
    record {
      names = differ scope.Graphs (names_of_graphs graphs) (subst Apart (mapped graphs.graphs) (apart_first (λ (g : Graph). in_scope scope.Graphs g.name) others 0 graphs.graphs apart));
      parts = λ n d inside. parts_differ n (get_or graphs.graphs n d) (apart_at (λ n g. graph_walk n g) 0 graphs.graphs n n d (omega arith) inside apart);
    }
  where
    others : ℕ → Graph → List ScopedName
    others n g =
        scoped (scope.Parts n) (map (λ (p : Param). p.name) g.params)
        ++ (scoped (scope.Parts n) (interface_names g.inputs)
        ++ (scoped (scope.Parts n) (interface_names g.outputs)
        ++ of_each (λ a actor. actor_walk n a actor) g.actors))

    mapped : (graphs : List Graph) → map (λ (g : Graph). in_scope scope.Graphs g.name) graphs ≡ scoped scope.Graphs (map (λ (g : Graph). g.name) graphs)
    mapped [] = refl
    mapped (g ∷ graphs) = ap (λ names. in_scope scope.Graphs g.name ∷ names) (mapped graphs)
