-- What stands at places of a graph, and is found there by its name again.
use Rattle.std.proofs.Common.{◌≡◌, ℕ, zero, suc, ◌+◌, ◌<◌, List, [], ◌∷◌, ◌++◌, map, All, length, get_or, refl, sym, ap, ◌∙◌, subst, arith, length-append, map-id}
use Rattle.std.specs.Prelude.{Option, unwrap_or, slice_get, slice_index_or}
use Rattle.std.specs.List.{flat_map}
use Rattle.std.proofs.lemmas.List.{length-map}
use Rattle.param_expr.specs.Bind.{place_of}
use Rattle.param_expr.specs.Print.{Differ}
use Rattle.pisdf_model.proofs.Alike.{of_mapped}
use Rattle.pisdf_model.specs.Parts.{interface_names, inputs_of, outputs_of, port_names, port_count}
use Rattle.pisdf_model.specs.Range.{HasPort, IsActorInRange, IsBodyInRange, IsEndInRange}
use Rattle.pisdf_model.specs.declared.actor.Actor.{Actor}
use Rattle.pisdf_model.specs.declared.actor.Body.{Body}
use Rattle.pisdf_model.specs.declared.actor.Body.TheVariants as body
use Rattle.pisdf_model.specs.declared.fifo.End.{End}
use Rattle.pisdf_model.specs.declared.fifo.End.TheVariants as end
use Rattle.pisdf_model.specs.declared.graph.Graph.{Graph}
use Rattle.pisdf_model.specs.declared.graph.Graphs.{Graphs}
use Rattle.pisdf_model.specs.declared.graph.Interface.{Interface}
use Rattle.pisdf_model.specs.Names.{own_port_names}
use Rattle.graph_format.specs.Named as named
use Rattle.graph_format.specs.Named.{name_at_place, named_actor, named_body, named_end, named_graph, named_interface, named_param, named_port, names_of_actors, names_of_interfaces, names_of_params, names_of_ports, names_of_ports_at}
use Rattle.graph_format.specs.Placed.{first_place, placed_end}
use Rattle.graph_format.specs.References.{unknown_in_end}
use Rattle.graph_format.specs.KnownNames.{KnownNames, known_names, interfaces_of, interfaces_named, names_at, ports_of}
use Rattle.graph_format.specs.KnownNames as file
use Rattle.graph_format.specs.declared.actor.FileActor.{FileActor}
use Rattle.graph_format.specs.declared.file.FileGraph.{FileGraph}
use Rattle.graph_format.specs.declared.port.FilePort.{FilePort}
use Rattle.graph_format.specs.declared.param.FileParam.{FileParam}
use Rattle.pisdf_model.specs.declared.actor.Port.{Port}
use Rattle.pisdf_model.specs.declared.param.Param.{Param}
use Rattle.graph_writer.proofs.Distinct.{AllDiffer, PartsDiffer}
use Rattle.param_expr.proofs.Printed.{place_again}

-- ---- lists

-- what parts become is told as the parts are
pub each_alike : {A B C : Type 0} (m : A → B) (f : B → C) (g : A → C) (P : A → Type 0) → ((x : A) → P x → f (m x) ≡ g x) → (xs : List A) → All P xs → map f (map m xs) ≡ map g xs
each_alike m f g P same [] all = refl
each_alike m f g P same (x ∷ xs) all = rw (same x (all 0 x (omega arith)), each_alike m f g P same xs (λ k d inside. all (suc k) d (omega arith))) refl

-- where each part becomes one of which there is nothing to tell, there is nothing to tell of all
pub none_of_each : {A B D : Type 0} (m : A → B) (f : B → List D) (P : A → Type 0) → ((x : A) → P x → f (m x) ≡ []) → (xs : List A) → All P xs → flat_map f (map m xs) ≡ []
none_of_each m f P none [] all = refl
none_of_each m f P none (x ∷ xs) all = rw (none x (all 0 x (omega arith)), none_of_each m f P none xs (λ k d inside. all (suc k) d (omega arith))) refl

-- what becomes each part again, becomes all of them
pub each_again : {A B : Type 0} (m : A → B) (f : B → A) (P : A → Type 0) → ((x : A) → P x → f (m x) ≡ x) → (xs : List A) → All P xs → map f (map m xs) ≡ xs
each_again m f P same xs all = each_alike m f (λ x. x) P same xs all ∙ map-id xs

-- ---- places

pub first_again : (names : List (List ℕ)) (i : ℕ) → Differ names → i < length names → first_place names (name_at_place names i) ≡ i
first_again names i differ inside = ap (λ (o : Option ℕ). unwrap_or o 0) (place_again names i differ inside)

-- ---- ports

child_ports : (graphs : List Graph) (k : ℕ) → slice_index_or (map names_of_interfaces graphs) k [] ≡ interface_names (inputs_of (slice_get graphs k)) ++ interface_names (outputs_of (slice_get graphs k))
child_ports [] k = refl
child_ports (g ∷ graphs) zero = refl
child_ports (g ∷ graphs) (suc k) = child_ports graphs k

child_ports_counted : (graphs : List Graph) (k : ℕ) → length (slice_index_or (map names_of_interfaces graphs) k []) ≡ length (interface_names (inputs_of (slice_get graphs k))) + length (interface_names (outputs_of (slice_get graphs k)))
child_ports_counted graphs k = ap length (child_ports graphs k) ∙ length-append (interface_names (inputs_of (slice_get graphs k))) (interface_names (outputs_of (slice_get graphs k)))

ports_counted : (graphs : Graphs) (b : Body) → length (names_of_ports graphs b) ≡ port_count graphs.graphs b
ports_counted graphs (body.Kernel kernel args ins outs) = length-append (port_names ins) (port_names outs)
ports_counted graphs (body.Config kernel args ins outs sets) = length-append ins (port_names outs)
ports_counted graphs (body.Child k args) = child_ports_counted graphs.graphs k
ports_counted graphs (body.ConfigChild k args sets) = child_ports_counted graphs.graphs k

child_ports_differ : (gs : List Graph) (k : ℕ) → k < length gs → ((d : Graph) → Differ (names_of_interfaces (get_or gs k d))) → Differ (slice_index_or (map names_of_interfaces gs) k [])
child_ports_differ [] k inside h = absurd (omega arith)
child_ports_differ (g ∷ gs) zero inside h = h g
child_ports_differ (g ∷ gs) (suc k) inside h = child_ports_differ gs k (omega arith) h

ports_differ : (graphs : Graphs) → AllDiffer graphs → (n : ℕ) (b : Body) → IsBodyInRange graphs.version (length graphs.graphs) n b → Differ (own_port_names b) → Differ (names_of_ports graphs b)
ports_differ graphs differ n (body.Kernel kernel args ins outs) range own = own
ports_differ graphs differ n (body.Config kernel args ins outs sets) range own = own
ports_differ graphs differ n (body.Child k args) range own = child_ports_differ graphs.graphs k range.0 (λ d. (differ.parts k d range.0).interfaces)
ports_differ graphs differ n (body.ConfigChild k args sets) range own = child_ports_differ graphs.graphs k range.1 (λ d. (differ.parts k d range.1).interfaces)

-- an actor that is there, and has the port
record StandsAt (graphs : Graphs) (g : Graph) (a p : ℕ) : Type 0 where
  pub actor : a < length g.actors
  pub port : p < length (names_of_ports_at graphs g a)
  pub differ : Differ (names_of_ports_at graphs g a)

stands_at : (graphs : Graphs) (g : Graph) (n a p : ℕ) → AllDiffer graphs → PartsDiffer g → All (λ a. IsActorInRange graphs.version (length graphs.graphs) n a) g.actors → HasPort graphs.graphs p (slice_get g.actors a) → StandsAt graphs g a p
stands_at graphs g n a p all parts range h =
    let f = go g.actors a range parts.ports h in
    record { actor = f.0; port = f.1; differ = f.2 }
  where
    ports : Actor → List (List ℕ)
    ports actor = names_of_ports graphs actor.body

    go : (actors : List Actor) (a : ℕ) → All (λ a. IsActorInRange graphs.version (length graphs.graphs) n a) actors → ((a : ℕ) (d : Actor) → a < length actors → Differ (own_port_names (get_or actors a d).body)) → HasPort graphs.graphs p (slice_get actors a)
        → (a < length actors) × (p < length (slice_index_or (map ports actors) a [])) × Differ (slice_index_or (map ports actors) a [])
    go [] a range own h = absurd h
    go (x ∷ xs) zero range own h = (
      omega arith,
      subst (λ k. p < k) (sym (ports_counted graphs x.body)) h,
      ports_differ graphs all n x.body (range 0 x (omega arith)) (own 0 x (omega arith)),
    )
    go (x ∷ xs) (suc a) range own h =
        let f = go xs a (λ k d inside. range (suc k) d (omega arith)) (λ k d inside. own (suc k) d (omega arith)) h in
        (omega (arith, f.0), f.1, f.2)

-- ---- the names that parts can refer to

abbrev pub scope_in : List (List ℕ) → Graphs → Graph → KnownNames
scope_in kernels graphs g = record {
  graphs = named.names_of_graphs graphs;
  kernels = kernels;
  params = names_of_params g;
  interfaces = names_of_interfaces g;
  actors = names_of_actors g;
  ports = map (λ (a : Actor). names_of_ports graphs a.body) g.actors;
}

-- ---- ends

-- an end is found by its names: they are known, and stand at its places
pub record IsFoundAgain (kernels : List (List ℕ)) (graphs : Graphs) (g : Graph) (e : End) : Type 0 where
  pub known : unknown_in_end (scope_in kernels graphs g) (named_end graphs g e) ≡ []
  pub placed : placed_end (scope_in kernels graphs g) (named_end graphs g e) ≡ e

pub end_found : (kernels : List (List ℕ)) (graphs : Graphs) (g : Graph) → AllDiffer graphs → PartsDiffer g → (n : ℕ) → All (λ a. IsActorInRange graphs.version (length graphs.graphs) n a) g.actors → (e : End) → IsEndInRange graphs.graphs g e → IsFoundAgain kernels graphs g e
end_found kernels graphs g all parts n range (end.Interface i) h =
    let inside : i < length (names_of_interfaces g) = omega (arith, h, length-append (map (λ (x : Interface). x.name) g.inputs) (map (λ (x : Interface). x.name) g.outputs), length-map g.inputs (λ (x : Interface). x.name), length-map g.outputs (λ (x : Interface). x.name)) in
    let place = place_again (names_of_interfaces g) i parts.interfaces inside in
    record { known = rw place refl; placed = rw place refl }
end_found kernels graphs g all parts n range (end.Port a p) h =
    let there : StandsAt graphs g a p = stands_at graphs g n a p all parts range h in
    let inside : a < length (names_of_actors g) = omega (arith, there.actor, length-map g.actors (λ (a : Actor). a.name)) in
    let actor = place_again (names_of_actors g) a parts.actors inside in
    let port = place_again (names_of_ports_at graphs g a) p there.differ there.port in
    record { known = rw (actor, port) refl; placed = rw (actor, port) refl }

-- ---- a file

module _ (table : List (List ℕ)) (graphs : Graphs) where
  abbrev pub files : List FileGraph
  files = map (named_graph table graphs) graphs.graphs

  graph_names : (gs : List Graph) → file.names_of_graphs (map (named_graph table graphs) gs) ≡ map (λ (g : Graph). g.name) gs
  unfolding named_graph
  graph_names gs = of_mapped (named_graph table graphs) (λ (g : FileGraph). g.name) (λ (g : Graph). g.name) (λ g. refl) gs

  pub file_names : file.names_of_graphs files ≡ named.names_of_graphs graphs
  file_names = graph_names graphs.graphs

  named_interfaces : (names : List (List ℕ)) (interfaces : List Interface) → file.file_port_names (map (named_interface names) interfaces) ≡ interface_names interfaces
  named_interfaces names interfaces = of_mapped (named_interface names) (λ (p : FilePort). p.name) (λ (i : Interface). i.name) (λ i. refl) interfaces

  named_ports : (names : List (List ℕ)) (ports : List Port) → file.file_port_names (map (named_port names) ports) ≡ port_names ports
  named_ports names ports = of_mapped (named_port names) (λ (p : FilePort). p.name) (λ (p : Port). p.name) (λ p. refl) ports

  interfaces_again : (g : Graph) → interfaces_of (named_graph table graphs g) ≡ names_of_interfaces g
  unfolding named_graph
  interfaces_again g = rw (named_interfaces (names_of_params g) g.inputs, named_interfaces (names_of_params g) g.outputs) refl

  child_again : Differ (named.names_of_graphs graphs) → (k : ℕ) → k < length graphs.graphs → interfaces_named files (name_at_place (named.names_of_graphs graphs) k) ≡ slice_index_or (map names_of_interfaces graphs.graphs) k []
  child_again differ k inside =
      let within : k < length (named.names_of_graphs graphs) = omega (arith, length-map graphs.graphs (λ (g : Graph). g.name)) in
      ap (λ names. names_at (map interfaces_of files) (place_of names (name_at_place (named.names_of_graphs graphs) k))) file_names
      ∙ ap (names_at (map interfaces_of files)) (place_again (named.names_of_graphs graphs) k differ within)
      ∙ ap (λ lists. slice_index_or lists k []) (of_mapped (named_graph table graphs) interfaces_of names_of_interfaces interfaces_again graphs.graphs)

  ports_again : (n : ℕ) (names : List (List ℕ)) → Differ (named.names_of_graphs graphs) → (b : Body) → IsBodyInRange graphs.version (length graphs.graphs) n b → ports_of files (named_body table graphs names b) ≡ names_of_ports graphs b
  ports_again n names differ (body.Kernel kernel args ins outs) range = rw (named_ports names ins, named_ports names outs) refl
  ports_again n names differ (body.Config kernel args ins outs sets) range = rw (named_ports names outs) refl
  ports_again n names differ (body.Child k args) range = child_again differ k range.0
  ports_again n names differ (body.ConfigChild k args sets) range = child_again differ k range.1

  pub scope_again : (kernels : List (List ℕ)) (n : ℕ) (g : Graph) → Differ (named.names_of_graphs graphs) → All (λ a. IsActorInRange graphs.version (length graphs.graphs) n a) g.actors → known_names kernels files (named_graph table graphs g) ≡ scope_in kernels graphs g
  unfolding named_graph
  scope_again kernels n g differ range =
      let names = names_of_params g in
      let params = of_mapped (named_param names) (λ (p : FileParam). p.name) (λ (p : Param). p.name) (λ p. refl) g.params in
      let actors = of_mapped (named_actor table graphs names) (λ (a : FileActor). a.name) (λ (a : Actor). a.name) (λ a. refl) g.actors in
      let ports = each_alike (named_actor table graphs names) (λ (a : FileActor). ports_of files a.body) (λ (a : Actor). names_of_ports graphs a.body) (λ a. IsActorInRange graphs.version (length graphs.graphs) n a) (λ a. ports_again n names differ a.body) g.actors range in
      rw (file_names, params, named_interfaces names g.inputs, named_interfaces names g.outputs, actors, ports) refl
