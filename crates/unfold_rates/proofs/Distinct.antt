-- In well-formed graphs no two actors of a graph have one name.
use Rattle.std.proofs.Common.{◌≡◌, ℕ, ◌<◌, List, [], ◌++◌, map, length, get_or, arith}
use Rattle.param_expr.specs.Print.{Differ}
use Rattle.pisdf_model.proofs.Distinct.{Apart, apart_at, apart_names, apart_of, apart_right, differ}
use Rattle.pisdf_model.proofs.Lists.{left_none, unmapped}
use Rattle.pisdf_model.proofs.Numbers.{faults_4, from_7}
use Rattle.pisdf_model.specs.Details.{of_each}
use Rattle.pisdf_model.specs.Names.{scoped, actor_walk, graph_walk, names_of, duplicate_faults}
use Rattle.pisdf_model.specs.Parts.{interface_names}
use Rattle.pisdf_model.specs.WellFormed.{WellFormed}
use Rattle.pisdf_model.specs.declared.actor.Actor.{Actor}
use Rattle.pisdf_model.specs.declared.graph.Graph.{Graph}
use Rattle.pisdf_model.specs.declared.graph.Graphs.{Graphs}
use Rattle.pisdf_model.specs.declared.param.Param.{Param}
use Rattle.pisdf_model.specs.declared.names.Scope.TheVariants as scope

actors_differ : (n : ℕ) (g : Graph) → Apart (graph_walk n g) → Differ (map (λ (actor : Actor). actor.name) g.actors)
actors_differ n g h =
    let s = scope.Parts n in
    let params = scoped s (map (λ (p : Param). p.name) g.params) in
    let inputs = scoped s (interface_names g.inputs) in
    let outputs = scoped s (interface_names g.outputs) in
    let actors = of_each (λ a actor. actor_walk n a actor) g.actors in
    let walks : Apart actors = apart_right outputs actors (apart_right inputs (outputs ++ actors) (apart_right params (inputs ++ (outputs ++ actors)) h.1)) in
    differ s (map (λ (actor : Actor). actor.name) g.actors) (apart_names n g.actors walks)

-- in well-formed graphs
pub names_differ : (graphs : Graphs) → WellFormed graphs → (n : ℕ) (d : Graph) → n < length graphs.graphs → Differ (map (λ (actor : Actor). actor.name) (get_or graphs.graphs n d).actors)
names_differ graphs well n d inside =
    let none : duplicate_faults graphs ≡ [] = unmapped (λ name. (4, name)) (duplicate_faults graphs) (left_none (faults_4 graphs) (from_7 graphs) well) in
    actors_differ n (get_or graphs.graphs n d) (apart_at (λ n g. graph_walk n g) 0 graphs.graphs n n d (omega arith) inside (apart_of (names_of graphs) none))
