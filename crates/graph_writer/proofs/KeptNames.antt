-- What a file means has the names of the file, at the places of their parts.
use Rattle.std.proofs.Common.{◌≡◌, ℕ, ◌+◌, Bool, true, false, cond, List, [], ◌∷◌, ◌++◌, map, All, refl, sym, ap, ◌∙◌, ◌==◌}
use Rattle.std.specs.Prelude.{Option, Some, None, is_none, unwrap_or}
use Rattle.std.specs.List.{enumerate_from, flat_map}
use Rattle.std.specs.Str.{bytes_eq}
use Rattle.std.proofs.lemmas.List.Elements.{All-nil, All-cons, All-head, All-tail}
use Rattle.std.proofs.lemmas.List.Quantifiers.{position-Some}
use Rattle.std.proofs.lemmas.Slice.Eq.{bytes_eq-Decides}
use Rattle.param_expr.specs.Bind.{place_of}
use Rattle.pisdf_model.specs.Details.{unless}
use Rattle.graph_format.specs.Named.{name_at_place}
use Rattle.graph_format.specs.Placed.{first_place, placed, placed_actor, placed_body, placed_graph, tokens_of, top_of}
use Rattle.graph_format.specs.References.{missing, unknown_in_actor, unknown_in_body, unknown_in_expr}
use Rattle.graph_format.proofs.NoFaults.{neither}
use Rattle.graph_writer.proofs.Resolving.{each_again, each_alike}
use Rattle.pisdf_model.proofs.Alike.{of_mapped}
use Rattle.pisdf_model.specs.declared.actor.Actor.{Actor}
use Rattle.pisdf_model.specs.declared.graph.Graph.{Graph}
use Rattle.pisdf_model.specs.declared.graph.Graphs.{Graphs}
use Rattle.graph_format.proofs.Laws.{interface_names_kept, param_names_kept, port_names_kept}
use Rattle.graph_format.specs.Named as named
use Rattle.graph_format.specs.KnownNames.{KnownNames, known_names, interfaces_of, names_of_graphs, ports_of}
use Rattle.graph_format.specs.declared.actor.FileActor.{FileActor}
use Rattle.graph_format.specs.declared.actor.FileBody.{FileBody}
use Rattle.graph_format.specs.declared.actor.FileBody.TheVariants.{Kernel, Config, Child, ConfigChild}
use Rattle.graph_format.specs.declared.file.File.{File}
use Rattle.graph_format.specs.declared.file.FileGraph.{FileGraph}

-- ---- lists

pub each_none : {A D : Type 0} (f : A → List D) (xs : List A) → flat_map f xs ≡ [] → All (λ x. f x ≡ []) xs
each_none f [] none = All-nil (λ x. f x ≡ [])
each_none f (x ∷ xs) none =
    let both = neither (f x) (flat_map f xs) none in
    All-cons (λ x. f x ≡ []) x xs both.0 (each_none f xs both.1)

-- parts in which nothing is unknown become what they were
pub again_where : {A B D : Type 0} (m : A → B) (f : B → A) (u : A → List D) → ((x : A) → u x ≡ [] → f (m x) ≡ x) → (xs : List A) → flat_map u xs ≡ [] → map f (map m xs) ≡ xs
again_where m f u same xs none = each_again m f (λ x. u x ≡ []) same xs (each_none u xs none)

pub unnumbered : {A B : Type 0} (f : A → B) (n : ℕ) (xs : List A) → map (λ (p : ℕ × A). f p.1) (enumerate_from n xs) ≡ map f xs
unnumbered f n [] = refl
unnumbered f n (x ∷ xs) = ap (λ ys. f x ∷ ys) (unnumbered f (n + 1) xs)

pub each_numbered : {A : Type 0} (P : A → Type 0) (n : ℕ) (xs : List A) → All P xs → All (λ (p : ℕ × A). P p.1) (enumerate_from n xs)
each_numbered {A} P n [] all = All-nil (λ (p : ℕ × A). P p.1)
each_numbered {A} P n (x ∷ xs) all = All-cons (λ (p : ℕ × A). P p.1) (n, x) (enumerate_from (n + 1) xs) (All-head P x xs all) (each_numbered P (n + 1) xs (All-tail P x xs all))

pub unless_none : {D : Type 0} (b : Bool) (d : D) → unless b d ≡ [] → b ≡ true
unless_none true d none = refl
unless_none false d none = absurd cc

-- ---- names

pub none_where : {D : Type 0} (b : Bool) (d : D) → cond b (d ∷ []) [] ≡ [] → b ≡ false
none_where true d none = absurd cc
none_where false d none = refl

-- the name stands at its place
pub record IsFound (names : List (List ℕ)) (w : List ℕ) : Type 0 where
  pub place : ℕ
  pub is : place_of names w ≡ Some place
  pub name : name_at_place names place ≡ w

pub found : (names : List (List ℕ)) (w : List ℕ) → is_none (place_of names w) ≡ false → IsFound names w
found names w some = go (place_of names w) refl some
  where
    go : (o : Option ℕ) → place_of names w ≡ o → is_none o ≡ false → IsFound names w
    go None is some = absurd cc
    go (Some i) is some =
        let passes = position-Some (bytes_eq w) names i [] is in
        record { place = i; is = is; name = sym ((bytes_eq-Decides w (name_at_place names i)).0 passes.1) }

pub known : (names : List (List ℕ)) (w : List ℕ) → missing names w ≡ [] → IsFound names w
known names w none = found names w (none_where (is_none (place_of names w)) w none)

pub name_again : (names others : List (List ℕ)) (w : List ℕ) → others ≡ names → IsFound names w → name_at_place others (first_place names w) ≡ w
name_again names others w same f = ap (λ ns. name_at_place ns (first_place names w)) same ∙ ap (λ (o : Option ℕ). name_at_place names (unwrap_or o 0)) f.is ∙ f.name

-- ---- the parts of a graph, and of the graphs that a file means

-- the names that stand at the places of a graph are those of the scope
pub record HasNames (s : KnownNames) (graphs : Graphs) (g : Graph) : Type 0 where
  pub params : named.names_of_params g ≡ s.params
  pub interfaces : named.names_of_interfaces g ≡ s.interfaces
  pub actors : named.names_of_actors g ≡ s.actors
  pub ports : map (λ (a : Actor). named.names_of_ports graphs a.body) g.actors ≡ s.ports

interfaces_kept : (version : ℕ) (is_top : Bool) (s : KnownNames) (g : FileGraph) → named.names_of_interfaces (placed_graph version tokens_of is_top s g) ≡ interfaces_of g
interfaces_kept version is_top s g = rw (interface_names_kept s g.inputs, interface_names_kept s g.outputs) refl

module _ (kernels : List (List ℕ)) (file : File) where
  abbrev pub here : FileGraph → KnownNames
  here g = known_names kernels file.graphs g

  abbrev pub meant : ℕ × FileGraph → Graph
  meant p = placed_graph file.version tokens_of (p.0 == top_of file) (here p.1) p.1

  abbrev pub graphs : Graphs
  graphs = placed tokens_of kernels file

  pub graph_names : named.names_of_graphs graphs ≡ names_of_graphs file.graphs
  graph_names = of_mapped meant (λ (g : Graph). g.name) (λ (p : ℕ × FileGraph). p.1.name) (λ p. refl) (enumerate_from 0 file.graphs) ∙ unnumbered (λ (g : FileGraph). g.name) 0 file.graphs

  all_interfaces : map named.names_of_interfaces graphs.graphs ≡ map interfaces_of file.graphs
  all_interfaces =
      of_mapped meant named.names_of_interfaces (λ (p : ℕ × FileGraph). interfaces_of p.1) (λ p. interfaces_kept file.version (p.0 == top_of file) (here p.1) p.1) (enumerate_from 0 file.graphs)
      ∙ unnumbered interfaces_of 0 file.graphs

  ports_kept : (g : FileGraph) (b : FileBody) → unknown_in_body (here g) b ≡ [] → named.names_of_ports graphs (placed_body (here g) b) ≡ ports_of file.graphs b
  ports_kept g (Kernel kernel args ins outs) none = rw (port_names_kept (here g) ins, port_names_kept (here g) outs) refl
  ports_kept g (Config kernel args ins outs sets) none = ap (λ names. ins ++ names) (port_names_kept (here g) outs)
  ports_kept g (Child graph args) none =
      let child = known (names_of_graphs file.graphs) graph (neither (missing (names_of_graphs file.graphs) graph) (flat_map (unknown_in_expr (here g)) args) none).0 in
      rw (all_interfaces, child.is) refl
  ports_kept g (ConfigChild graph args sets) none =
      let of_graph = missing (names_of_graphs file.graphs) graph in
      let of_args = flat_map (unknown_in_expr (here g)) args in
      let child = known (names_of_graphs file.graphs) graph (neither of_graph of_args (neither (of_graph ++ of_args) (flat_map (missing (here g).params) sets) none).0).0 in
      rw (all_interfaces, child.is) refl

  -- of a graph whose actors refer to what is there
  pub names_kept : (is_top : Bool) (g : FileGraph) → flat_map (unknown_in_actor (here g)) g.actors ≡ [] → HasNames (here g) graphs (placed_graph file.version tokens_of is_top (here g) g)
  names_kept is_top g none = record {
    params = param_names_kept (here g) g.params;
    interfaces = interfaces_kept file.version is_top (here g) g;
    actors = of_mapped (placed_actor (here g)) (λ (a : Actor). a.name) (λ (a : FileActor). a.name) (λ a. refl) g.actors;
    ports = each_alike (placed_actor (here g)) (λ (a : Actor). named.names_of_ports graphs a.body) (λ (a : FileActor). ports_of file.graphs a.body) (λ a. unknown_in_actor (here g) a ≡ []) (λ a. ports_kept g a.body) g.actors (each_none (unknown_in_actor (here g)) g.actors none);
  }
