-- A file's graphs, from the graphs of its parts.
use Rattle.std.proofs.Common.{◌≡◌, ◌==◌, ℕ, List, [], map, Bool, Result, Ok, refl, sym, ap, ◌∙◌, subst}
use Rattle.std.specs.List.{enumerate_from, flat_map}
use Rattle.pisdf_model.specs.declared.graph.Graph.{Graph}
use Rattle.pisdf_model.specs.declared.graph.Graphs.{Graphs}
use Rattle.graph_format.specs.declared.actor.FileActor.{FileActor}
use Rattle.graph_format.specs.declared.file.File.{File}
use Rattle.graph_format.specs.declared.file.FileGraph.{FileGraph}
use Rattle.graph_format.specs.Placed.{first_place, placed, placed_graph, top_of}
use Rattle.graph_format.specs.References.{missing, unknown_in_file, unknown_in_graph}
use Rattle.graph_format.specs.KnownNames.{interfaces_of, names_of_actors, names_of_graphs, names_of_params, ports_of, known_names}
use Rattle.graph_reader.specs.declared.file_names.FileNames.{FileNames}
use Rattle.graph_reader.specs.declared.surroundings.Delays.{Delays}
use Rattle.pisdf_model.specs.declared.detail_fault.DetailFault.{DetailFault}
use Rattle.pisdf_model.specs.Details.{Refuses}
use Rattle.graph_reader.specs.Resolves.{Resolves}
use Rattle.graph_reader.specs.Setting.{AreOf, Setting, delays_by}
use Rattle.graph_reader.proofs.Each.{rest_fails, none_in_both}

abbrev setting : List (List ℕ) → List (List ℕ) → List (List ℕ) → List (List ℕ) → List (List ℕ) → List (List (List ℕ)) → ℕ → Bool → Delays → Setting
setting kernels file_graphs params interfaces actors ports version is_top delays = record { scope = record { graphs = file_graphs; kernels = kernels; params = params; interfaces = interfaces; actors = actors; ports = ports }; version = version; is_top = is_top; delays = delays }

pub same_setting : (file_graphs kernels params interfaces actors : List (List ℕ)) (ports : List (List (List ℕ))) (graphs : List FileGraph) (g : FileGraph) (version : ℕ) (is_top : Bool) (delays : Delays) → file_graphs ≡ names_of_graphs graphs → params ≡ names_of_params g.params → interfaces ≡ interfaces_of g
    → actors ≡ names_of_actors g.actors → ports ≡ map (λ (a : FileActor). ports_of graphs a.body) g.actors → setting kernels file_graphs params interfaces actors ports version is_top delays ≡ record { scope = known_names kernels graphs g; version = version; is_top = is_top; delays = delays }
same_setting file_graphs kernels params interfaces actors ports graphs g version is_top delays e1 e2 e3 e4 e5 = cc

pub resolves_in : (t u : Setting) (g : FileGraph) (r : Result Graph (DetailFault (List ℕ))) → t ≡ u → Resolves (unknown_in_graph t.scope g) (placed_graph t.version (delays_by t.delays) t.is_top t.scope g) r → Resolves (unknown_in_graph u.scope g) (placed_graph u.version (delays_by u.delays) u.is_top u.scope g) r
resolves_in t u g r e h = subst (λ (v : Setting). Resolves (unknown_in_graph v.scope g) (placed_graph v.version (delays_by v.delays) v.is_top v.scope g) r) e h

pub fails_in : (t u : Setting) (g : FileGraph) (e : DetailFault (List ℕ)) → t ≡ u → Refuses (unknown_in_graph t.scope g) e → Refuses (unknown_in_graph u.scope g) e
fails_in t u g e same h = subst (λ (v : Setting). Refuses (unknown_in_graph v.scope g) e) same h

-- the names of kernels play no part in what is unknown
unknown_with : (kernels : List (List ℕ)) (graphs some : List FileGraph) → flat_map (λ (g : FileGraph). unknown_in_graph (known_names kernels graphs g) g) some ≡ flat_map (λ (g : FileGraph). unknown_in_graph (known_names [] graphs g) g) some
unknown_with kernels graphs some = refl

pub graphs_fail : (names : FileNames) (file : File) (graphs : List FileGraph) (top : ℕ) (e : DetailFault (List ℕ)) → graphs ≡ file.graphs → AreOf graphs names → Resolves (missing names.graphs file.top) (first_place names.graphs file.top) (Ok top)
    → Refuses (flat_map (λ (g : FileGraph). unknown_in_graph (known_names names.kernels graphs g) g) graphs) e → Refuses (unknown_in_file file) e
graphs_fail names file graphs top e are of h fails =
    let names_are : names.graphs ≡ names_of_graphs file.graphs = of.graphs ∙ ap names_of_graphs are in
    rest_fails (missing (names_of_graphs file.graphs) file.top) (flat_map (λ (g : FileGraph). unknown_in_graph (known_names [] file.graphs g) g) file.graphs) e (ap (λ (ns : List (List ℕ)). missing ns file.top) (sym names_are) ∙ h.0)
    (subst (λ (u : List (List ℕ)). Refuses u e) (ap (λ (gs : List FileGraph). flat_map (λ (g : FileGraph). unknown_in_graph (known_names names.kernels gs g) g) gs) are ∙ unknown_with names.kernels file.graphs file.graphs) fails)

abbrev numbered_graphs : ℕ → Delays → List (List ℕ) → List FileGraph → ℕ → List Graph
numbered_graphs version delays kernels graphs top = map (λ (n : ℕ × FileGraph). placed_graph version (delays_by delays) (n.0 == top) (known_names kernels graphs n.1) n.1) (enumerate_from 0 graphs)

abbrev made_of : File → ℕ → List Graph → Graphs
made_of file top graphs = record { version = file.version; top = top; graphs = graphs }

pub graphs_found : (names : FileNames) (kernels : List (List ℕ)) (file : File) (parts : List FileGraph) (delays : Delays) (top : ℕ) (graphs : List Graph) → parts ≡ file.graphs → names.kernels ≡ kernels → AreOf parts names
    → Resolves (missing names.graphs file.top) (first_place names.graphs file.top) (Ok top)
    → Resolves (flat_map (λ (g : FileGraph). unknown_in_graph (known_names names.kernels parts g) g) parts) (numbered_graphs file.version delays names.kernels parts top) (Ok graphs)
    → (unknown_in_file file ≡ []) × (made_of file top graphs ≡ placed (delays_by delays) kernels file)
graphs_found names kernels file parts delays top graphs are same of h found =
    let names_are : names.graphs ≡ names_of_graphs file.graphs = of.graphs ∙ ap names_of_graphs are in
    let none : flat_map (λ (g : FileGraph). unknown_in_graph (known_names names.kernels file.graphs g) g) file.graphs ≡ [] = ap (λ (gs : List FileGraph). flat_map (λ (g : FileGraph). unknown_in_graph (known_names names.kernels gs g) g) gs) (sym are) ∙ found.0 in
    let top_is : top ≡ top_of file = h.1 ∙ ap (λ (ns : List (List ℕ)). first_place ns file.top) names_are in
    let graphs_are : graphs ≡ numbered_graphs file.version delays kernels file.graphs (top_of file) =
    found.1 ∙ ap (λ (gs : List FileGraph). numbered_graphs file.version delays names.kernels gs top) are ∙ ap (numbered_graphs file.version delays names.kernels file.graphs) top_is
    ∙ ap (λ (ks : List (List ℕ)). numbered_graphs file.version delays ks file.graphs (top_of file)) same in (
      none_in_both (missing (names_of_graphs file.graphs) file.top) (flat_map (λ (g : FileGraph). unknown_in_graph (known_names [] file.graphs g) g) file.graphs) (ap (λ (ns : List (List ℕ)). missing ns file.top) (sym names_are) ∙ h.0)
          (sym (unknown_with names.kernels file.graphs file.graphs) ∙ none),
      ap (λ (t : ℕ). made_of file t graphs) top_is ∙ ap (made_of file (top_of file)) graphs_are,
    )
