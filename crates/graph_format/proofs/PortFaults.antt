-- Graphs whose ports have no fault by one test of actors, have none by another that their actors pass too.
use Rattle.std.proofs.Common.{◌≡◌, ◌+◌, ◌==◌, ℕ, Bool, List, [], ◌∷◌, All, refl}
use Rattle.std.proofs.lemmas.List.Elements.{All-head, All-tail}
use Rattle.pisdf_model.proofs.Lists.{left_none, right_none}
use Rattle.pisdf_model.specs.Details.{from_number, of_each, unless}
use Rattle.pisdf_model.specs.Ports.{actor_ports, all_sets, body_fits, graph_ports, param_ports}
use Rattle.pisdf_model.specs.declared.actor.Actor.{Actor}
use Rattle.pisdf_model.specs.declared.actor.Body.{Body}
use Rattle.pisdf_model.specs.declared.graph.Graph.{Graph}

module _ (fits others : Body → Bool) (P : Actor → Type 0) (graphs : List Graph)
    (passes : (actor : Actor) → P actor → unless (body_fits fits graphs actor.body) actor.name ≡ [] → unless (body_fits others graphs actor.body) actor.name ≡ []) where
  actors_pass : (n : ℕ) (actors : List Actor) → All P actors → from_number n (λ a actor. actor_ports fits graphs actor) actors ≡ [] → from_number n (λ a actor. actor_ports others graphs actor) actors ≡ []
  actors_pass n [] all none = refl
  actors_pass n (actor ∷ actors) all none =
      let here = actor_ports fits graphs actor in
      let rest = from_number (n + 1) (λ a actor. actor_ports fits graphs actor) actors in
      rw (passes actor (All-head P actor actors all) (left_none here rest none), actors_pass (n + 1) actors (All-tail P actor actors all) (right_none here rest none)) refl

  graph_passes : (is_top : Bool) (g : Graph) → All P g.actors → graph_ports fits graphs is_top g ≡ [] → graph_ports others graphs is_top g ≡ []
  graph_passes is_top g all none =
      let actors = of_each (λ a actor. actor_ports fits graphs actor) g.actors in
      let params = of_each (λ i p. param_ports is_top (all_sets g.actors) i p) g.params in
      rw (actors_pass 0 g.actors all (left_none actors params none), right_none actors params none) refl

  pub graphs_pass : (top n : ℕ) (some : List Graph) → All (λ (g : Graph). All P g.actors) some → from_number n (λ n g. graph_ports fits graphs (n == top) g) some ≡ [] → from_number n (λ n g. graph_ports others graphs (n == top) g) some ≡ []
  graphs_pass top n [] all none = refl
  graphs_pass top n (g ∷ some) all none =
      let here = graph_ports fits graphs (n == top) g in
      let rest = from_number (n + 1) (λ n g. graph_ports fits graphs (n == top) g) some in
      rw (graph_passes (n == top) g (All-head (λ (g : Graph). All P g.actors) g some all) (left_none here rest none), graphs_pass top (n + 1) some (All-tail (λ (g : Graph). All P g.actors) g some all) (right_none here rest none)) refl
