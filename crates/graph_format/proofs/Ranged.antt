-- Where no reference of a file names nothing, each number in its graphs refers to a part that is there.
use Rattle.std.proofs.Common.{◌≡◌, ◌==◌, ℕ, zero, suc, ◌+◌, ◌<◌, ⊎_elim, inl, inr, ℤ, List, [], ◌∷◌, ◌++◌, length, map, cond, Bool, true, false, Option, Some, refl, sym, ap, ◌∙◌, subst, arith, zero-add}
use Rattle.std.specs.Prelude.{slice_get, slice_index_or}
use Rattle.std.specs.List.{All, enumerate_from, flat_map}
use Rattle.std.proofs.lemmas.List.{length-append, length-map}
use Rattle.std.proofs.lemmas.List.Elements.{All-nil, All-cons, All-head, All-tail}
use Rattle.std.proofs.lemmas.List.FromFn.{length-enumerate_from}
use Rattle.param_expr.specs.Bind.{place_of, placed_in}
use Rattle.param_expr.specs.Eval.{RefersBelow}
use Rattle.param_expr.specs.Named.{NamedTree}
use Rattle.pisdf_model.proofs.Lists.{left_none, right_none}
use Rattle.pisdf_model.specs.Parts.{inputs_of, interface_names, outputs_of, port_count}
use Rattle.pisdf_model.specs.Range.{HasPort, InRange, IsActorInRange, IsBodyInRange, IsEndInRange, IsFifoInRange, IsGraphInRange, IsInterfaceInRange, IsKindInRange, IsParamInRange, IsPortInRange, first_life, life_of}
use Rattle.pisdf_model.specs.declared.fifo.Life.{Life}
use Rattle.pisdf_model.specs.declared.graph.Graph.{Graph}
use Rattle.pisdf_model.specs.declared.graph.Interface.{Interface}
use Rattle.pisdf_model.specs.declared.actor.Port.{Port}
use Rattle.graph_format.specs.Placed.{first_place, placed, placed_actor, placed_body, placed_end, placed_exprs, placed_fifo, placed_graph, placed_interface, placed_kind, placed_param, placed_port, ports_named, top_of}
use Rattle.graph_format.specs.References.{missing, unknown_in_actor, unknown_in_body, unknown_in_end, unknown_in_expr, unknown_in_fifo, unknown_in_file, unknown_in_graph, unknown_in_kind, unknown_in_param, unknown_in_port}
use Rattle.graph_format.specs.KnownNames.{KnownNames, interfaces_of, interfaces_named, names_at, names_of_actors, names_of_graphs, file_port_names, ports_of, known_names}
use Rattle.graph_format.specs.Versions.{IsActorOf, IsBodyOf, IsGraphOf, IsOfVersion}
use Rattle.graph_format.specs.declared.actor.FileActor.{FileActor}
use Rattle.graph_format.specs.declared.actor.FileBody.{FileBody}
use Rattle.graph_format.specs.declared.actor.FileBody.TheVariants.{Kernel, Config, Child, ConfigChild}
use Rattle.graph_format.specs.declared.fifo.FileDelay.{FileDelay}
use Rattle.graph_format.specs.declared.fifo.FileEnd.{FileEnd}
use Rattle.graph_format.specs.declared.fifo.FileEnd.TheVariants as file_end
use Rattle.graph_format.specs.declared.fifo.FileFifo.{FileFifo}
use Rattle.graph_format.specs.declared.file.File.{File}
use Rattle.graph_format.specs.declared.file.FileGraph.{FileGraph}
use Rattle.graph_format.specs.declared.param.FileParam.{FileParam}
use Rattle.graph_format.specs.declared.param.FileParamKind.{FileParamKind}
use Rattle.graph_format.specs.declared.param.FileParamKind.TheVariants.{Inherited, Derived, Chosen}
use Rattle.graph_format.specs.declared.port.FilePort.{FilePort}
use Rattle.graph_format.proofs.InPlace.{at_place, each_there, end_there, expr_there, place_there}

-- as many parts as there were, whatever is told of each
as_many : {A B C D : Type 0} (m : A → B) (f : B → C) (g : A → D) (xs : List A) → length (map f (map m xs)) ≡ length (map g xs)
as_many m f g xs = length-map (map m xs) f ∙ length-map xs m ∙ sym (length-map xs g)

-- a graph's inputs and outputs, in places as in the file
abbrev interface_count : Option Graph → ℕ
interface_count g = length (interface_names (inputs_of g)) + length (interface_names (outputs_of g))

-- the life that a delay gets is the one that it keeps
life_stays : (version : ℕ) (is_top : Bool) (stated : Life) (delay : List ℤ) → life_of version is_top stated delay ≡ life_of version is_top (life_of version is_top stated delay) delay
life_stays version is_top stated [] = refl
life_stays version is_top stated (token ∷ tokens) = by (version == 1)
  where
    by : (first : Bool) → cond first (first_life is_top) stated ≡ cond first (first_life is_top) (cond first (first_life is_top) stated)
    by true = refl
    by false = refl

-- ---- one graph of a file, which is part of these graphs

module _ (tokens : FileDelay → List ℤ) (kernels : List (List ℕ)) (file_graphs : List FileGraph) (graphs : List Graph) (long : length graphs ≡ length (names_of_graphs file_graphs))
    (version : ℕ) (child : (k : ℕ) → k < length (names_of_graphs file_graphs) → interface_count (slice_get graphs k) ≡ length (slice_index_or (map interfaces_of file_graphs) k []))
    (is_top : Bool) (g : FileGraph) where
  abbrev s : KnownNames
  s = known_names kernels file_graphs g

  abbrev made : Graph
  made = placed_graph version tokens is_top s g

  abbrev n : ℕ
  n = length made.params

  params_long : length s.params ≡ n
  params_long = length-map g.params (λ (p : FileParam). p.name) ∙ sym (length-map g.params (placed_param s))

  expr_in : (e : NamedTree) → unknown_in_expr s e ≡ [] → RefersBelow n (placed_in s.params e)
  expr_in e none = subst (λ m. RefersBelow m (placed_in s.params e)) params_long (expr_there s e none)

  exprs_in : (es : List NamedTree) → flat_map (unknown_in_expr s) es ≡ [] → All (λ e. RefersBelow n e) (placed_exprs s es)
  exprs_in es none = each_there (unknown_in_expr s) (placed_in s.params) (λ e. RefersBelow n e) expr_in es none

  kind_in : (kind : FileParamKind) → unknown_in_kind s kind ≡ [] → IsKindInRange n (placed_kind s kind)
  kind_in Inherited none = tt
  kind_in (Derived expr) none = expr_in expr none
  kind_in Chosen none = tt

  params_in : (params : List FileParam) → flat_map (unknown_in_param s) params ≡ [] → All (λ p. IsParamInRange n p) (map (placed_param s) params)
  params_in params none = each_there (unknown_in_param s) (placed_param s) (λ p. IsParamInRange n p) (λ p none_here. kind_in p.kind none_here) params none

  ports_in : (ports : List FilePort) → flat_map (unknown_in_port s) ports ≡ [] → All (λ p. IsPortInRange n p) (map (placed_port s) ports)
  ports_in ports none = each_there (unknown_in_port s) (placed_port s) (λ p. IsPortInRange n p) (λ p none_here. expr_in p.rate none_here) ports none

  interfaces_in : (ports : List FilePort) → flat_map (unknown_in_port s) ports ≡ [] → All (λ x. IsInterfaceInRange n x) (map (placed_interface s) ports)
  interfaces_in ports none = each_there (unknown_in_port s) (placed_interface s) (λ x. IsInterfaceInRange n x) (λ p none_here. expr_in p.rate none_here) ports none

  sets_in : (sets : List (List ℕ)) → flat_map (missing s.params) sets ≡ [] → All (λ i. i < n) (map (first_place s.params) sets)
  sets_in sets none = each_there (missing s.params) (first_place s.params) (λ i. i < n) (λ w none_here. subst (λ m. first_place s.params w < m) params_long (place_there s.params w none_here)) sets none

  body_in : (b : FileBody) → IsBodyOf version b → unknown_in_body s b ≡ [] → IsBodyInRange version (length graphs) n (placed_body s b)
  body_in (Kernel kernel args ins outs) of none =
      let exprs = flat_map (unknown_in_expr s) args in
      let inputs = flat_map (unknown_in_port s) ins in
      let outputs = flat_map (unknown_in_port s) outs in
      let front : exprs ++ inputs ≡ [] = left_none (exprs ++ inputs) outputs none in
      (exprs_in args (left_none exprs inputs front), ports_in ins (right_none exprs inputs front), ports_in outs (right_none (exprs ++ inputs) outputs none))
  body_in (Config kernel args ins outs sets) of none =
      let exprs = flat_map (unknown_in_expr s) args in
      let outputs = flat_map (unknown_in_port s) outs in
      let params = flat_map (missing s.params) sets in
      let front : exprs ++ outputs ≡ [] = left_none (exprs ++ outputs) params none in
      (exprs_in args (left_none exprs outputs front), ports_in outs (right_none exprs outputs front), sets_in sets (right_none (exprs ++ outputs) params none))
  body_in (Child graph args) of none =
      let exprs = flat_map (unknown_in_expr s) args in
      (subst (λ m. first_place s.graphs graph < m) (sym long) (place_there s.graphs graph (left_none (missing s.graphs graph) exprs none)), exprs_in args (right_none (missing s.graphs graph) exprs none))
  body_in (ConfigChild graph args sets) of none =
      let named = missing s.graphs graph in
      let exprs = flat_map (unknown_in_expr s) args in
      let params = flat_map (missing s.params) sets in
      let front : named ++ exprs ≡ [] = left_none (named ++ exprs) params none in
      (of, subst (λ m. first_place s.graphs graph < m) (sym long) (place_there s.graphs graph (left_none named exprs front)), exprs_in args (right_none named exprs front), sets_in sets (right_none (named ++ exprs) params none))

  actors_in : (actors : List FileActor) → All (IsActorOf version) actors → flat_map (unknown_in_actor s) actors ≡ [] → All (λ a. IsActorInRange version (length graphs) n a) (map (placed_actor s) actors)
  actors_in [] of none = All-nil (λ a. IsActorInRange version (length graphs) n a)
  actors_in (a ∷ actors) of none =
      All-cons (λ a. IsActorInRange version (length graphs) n a) (placed_actor s a) (map (placed_actor s) actors)
      (body_in a.body (All-head (IsActorOf version) a actors of) (left_none (unknown_in_actor s a) (flat_map (unknown_in_actor s) actors) none))
      (actors_in actors (All-tail (IsActorOf version) a actors of) (right_none (unknown_in_actor s a) (flat_map (unknown_in_actor s) actors) none))

  -- ---- ends

  names_long : (ports : List FilePort) → length (map (λ (p : Port). p.name) (map (placed_port s) ports)) ≡ length (file_port_names ports)
  names_long ports = as_many (placed_port s) (λ (p : Port). p.name) (λ (p : FilePort). p.name) ports

  child_ports_long : (graph : List ℕ) → missing s.graphs graph ≡ [] → interface_count (slice_get graphs (first_place s.graphs graph)) ≡ length (interfaces_named file_graphs graph)
  child_ports_long graph known =
      let at = at_place (place_of s.graphs graph) s.graphs graph [] graph refl known in
      child (first_place s.graphs graph) at.1 ∙ ap (λ o. length (names_at (map interfaces_of file_graphs) o)) (sym at.0)

  ports_long : (b : FileBody) → unknown_in_body s b ≡ [] → port_count graphs (placed_body s b) ≡ length (ports_of file_graphs b)
  ports_long (Kernel kernel args ins outs) none =
      ap (λ m. m + length (map (λ (p : Port). p.name) (map (placed_port s) outs))) (names_long ins) ∙ ap (λ m. length (file_port_names ins) + m) (names_long outs) ∙ sym (length-append (file_port_names ins) (file_port_names outs))
  ports_long (Config kernel args ins outs sets) none = ap (λ m. length ins + m) (names_long outs) ∙ sym (length-append ins (file_port_names outs))
  ports_long (Child graph args) none = child_ports_long graph (left_none (missing s.graphs graph) (flat_map (unknown_in_expr s) args) none)
  ports_long (ConfigChild graph args sets) none =
      let named = missing s.graphs graph in
      let exprs = flat_map (unknown_in_expr s) args in
      child_ports_long graph (left_none named exprs (left_none (named ++ exprs) (flat_map (missing s.params) sets) none))

  has_port : (actors : List FileActor) (a p : ℕ) → flat_map (unknown_in_actor s) actors ≡ [] → a < length (names_of_actors actors) → p < length (slice_index_or (map (λ (x : FileActor). ports_of file_graphs x.body) actors) a [])
      → HasPort graphs p (slice_get (map (placed_actor s) actors) a)
  has_port [] a p none inside below = absurd (omega arith)
  has_port (x ∷ actors) zero p none inside below = subst (λ m. p < m) (sym (ports_long x.body (left_none (unknown_in_actor s x) (flat_map (unknown_in_actor s) actors) none))) below
  has_port (x ∷ actors) (suc a) p none inside below = has_port actors a p (right_none (unknown_in_actor s x) (flat_map (unknown_in_actor s) actors) none) (omega arith) below

  interfaces_long : length s.interfaces ≡ length made.inputs + length made.outputs
  interfaces_long =
      length-append (file_port_names g.inputs) (file_port_names g.outputs)
      ∙ ap (λ m. m + length (file_port_names g.outputs)) (length-map g.inputs (λ (p : FilePort). p.name) ∙ sym (length-map g.inputs (placed_interface s)))
      ∙ ap (λ m. length made.inputs + m) (length-map g.outputs (λ (p : FilePort). p.name) ∙ sym (length-map g.outputs (placed_interface s)))

  module _ (actors_known : flat_map (unknown_in_actor s) g.actors ≡ []) where
    end_in : (e : FileEnd) → unknown_in_end s e ≡ [] → IsEndInRange graphs made (placed_end s e)
    end_in (file_end.Interface w) none = subst (λ m. first_place s.interfaces w < m) interfaces_long (end_there s (file_end.Interface w) none)
    end_in (file_end.Port actor port) none =
        let there = end_there s (file_end.Port actor port) none in
        has_port g.actors (first_place s.actors actor) (first_place (ports_named s actor) port) actors_known there.0 there.1

    fifo_in : (f : FileFifo) → unknown_in_fifo s f ≡ [] → IsFifoInRange version graphs is_top made (placed_fifo version tokens is_top s f)
    fifo_in f none = record {
      tail = end_in f.from (left_none (unknown_in_end s f.from) (unknown_in_end s f.to) none);
      head = end_in f.to (right_none (unknown_in_end s f.from) (unknown_in_end s f.to) none);
      life = life_stays version is_top f.life (tokens f.delay);
    }

    fifos_in : (fifos : List FileFifo) → flat_map (unknown_in_fifo s) fifos ≡ [] → All (λ f. IsFifoInRange version graphs is_top made f) (map (placed_fifo version tokens is_top s) fifos)
    fifos_in fifos none = each_there (unknown_in_fifo s) (placed_fifo version tokens is_top s) (λ f. IsFifoInRange version graphs is_top made f) fifo_in fifos none

  graph_in : IsGraphOf version g → unknown_in_graph s g ≡ [] → IsGraphInRange version graphs is_top made
  graph_in of none =
      let params = flat_map (unknown_in_param s) g.params in
      let inputs = flat_map (unknown_in_port s) g.inputs in
      let outputs = flat_map (unknown_in_port s) g.outputs in
      let actors = flat_map (unknown_in_actor s) g.actors in
      let fifos = flat_map (unknown_in_fifo s) g.fifos in
      let exports = flat_map (missing s.params) g.exports in
      let to_inputs = params ++ inputs in
      let to_outputs = params ++ inputs ++ outputs in
      let to_actors = params ++ inputs ++ outputs ++ actors in
      let to_fifos = params ++ inputs ++ outputs ++ actors ++ fifos in
      let none_to_fifos : to_fifos ≡ [] = left_none to_fifos exports none in
      let none_to_actors : to_actors ≡ [] = left_none to_actors fifos none_to_fifos in
      let none_to_outputs : to_outputs ≡ [] = left_none to_outputs actors none_to_actors in
      let none_to_inputs : to_inputs ≡ [] = left_none to_inputs outputs none_to_outputs in
      let known : actors ≡ [] = right_none to_outputs actors none_to_actors in
      record {
        params = params_in g.params (left_none params inputs none_to_inputs);
        inputs = interfaces_in g.inputs (right_none params inputs none_to_inputs);
        outputs = interfaces_in g.outputs (right_none to_inputs outputs none_to_outputs);
        actors = actors_in g.actors of.actors known;
        fifos = fifos_in known g.fifos (right_none to_actors fifos none_to_fifos);
        exports = sets_in g.exports (right_none to_fifos exports none);
        exporting = ⊎_elim (λ (is : version ≡ 3). inl is) (λ (none : g.exports ≡ []). inr (ap (map (first_place s.params)) none)) of.exporting;
      }

-- ---- all graphs of a file

-- what holds of what each graph becomes at its number
at_each : (P : ℕ → Graph → Type 0) (Q : FileGraph → Type 0) (unknown : FileGraph → List (List ℕ)) (made : ℕ × FileGraph → Graph) → ((k : ℕ) (g : FileGraph) → Q g → unknown g ≡ [] → P k (made (k, g))) → (m : ℕ) (gs : List FileGraph) → All Q gs → flat_map unknown gs ≡ [] → (k : ℕ) (d : Graph)
    → k < length (map made (enumerate_from m gs)) → P (m + k) (slice_index_or (map made (enumerate_from m gs)) k d)
at_each P Q unknown made each m [] all none k d inside = absurd (omega arith)
at_each P Q unknown made each m (g ∷ gs) all none zero d inside =
    let same : m ≡ m + 0 = omega arith in
    subst (λ k. P k (made (m, g))) same (each m g (All-head Q g gs all) (left_none (unknown g) (flat_map unknown gs) none))
at_each P Q unknown made each m (g ∷ gs) all none (suc k) d inside =
    let same : m + 1 + k ≡ m + suc k = omega arith in
    subst (λ j. P j (slice_index_or (map made (enumerate_from (m + 1) gs)) k d)) same (at_each P Q unknown made each (m + 1) gs (All-tail Q g gs all) (right_none (unknown g) (flat_map unknown gs) none) k d (omega arith))

-- the interfaces of what each graph becomes
child_long : (made : ℕ × FileGraph → Graph) → ((k : ℕ) (g : FileGraph) → interface_count (Some (made (k, g))) ≡ length (interfaces_of g)) → (m : ℕ) (gs : List FileGraph) (k : ℕ) → k < length (names_of_graphs gs)
    → interface_count (slice_get (map made (enumerate_from m gs)) k) ≡ length (slice_index_or (map interfaces_of gs) k [])
child_long made each m [] k inside = absurd (omega arith)
child_long made each m (g ∷ gs) zero inside = each m g
child_long made each m (g ∷ gs) (suc k) inside = child_long made each (m + 1) gs k (omega arith)

module _ (tokens : FileDelay → List ℤ) (kernels : List (List ℕ)) (file : File) where
  abbrev each_made : ℕ × FileGraph → Graph
  each_made p = placed_graph file.version tokens (p.0 == top_of file) (known_names kernels file.graphs p.1) p.1

  abbrev all_made : List Graph
  all_made = map each_made (enumerate_from 0 file.graphs)

  all_long : length all_made ≡ length (names_of_graphs file.graphs)
  all_long = length-map (enumerate_from 0 file.graphs) each_made ∙ length-enumerate_from 0 file.graphs ∙ sym (length-map file.graphs (λ (g : FileGraph). g.name))

  interfaces_made : (k : ℕ) (g : FileGraph) → interface_count (Some (each_made (k, g))) ≡ length (interfaces_of g)
  interfaces_made k g =
      let s = known_names kernels file.graphs g in
      let name : Interface → List ℕ = λ i. i.name in
      let stated : FilePort → List ℕ = λ p. p.name in
      ap (λ m. m + length (map name (map (placed_interface s) g.outputs))) (as_many (placed_interface s) name stated g.inputs)
      ∙ ap (λ m. length (file_port_names g.inputs) + m) (as_many (placed_interface s) name stated g.outputs)
      ∙ sym (length-append (file_port_names g.inputs) (file_port_names g.outputs))

  pub file_in_range : IsOfVersion file → unknown_in_file file ≡ [] → InRange (placed tokens kernels file)
  file_in_range of none =
      let unknown : FileGraph → List (List ℕ) = λ g. unknown_in_graph (known_names kernels file.graphs g) g in
      let top_unknown = missing (names_of_graphs file.graphs) file.top in
      let known : flat_map unknown file.graphs ≡ [] = right_none top_unknown (flat_map unknown file.graphs) none in
      record {
        first_version = of.first_version;
        last_version = of.last_version;
        top = subst (λ m. top_of file < m) (sym all_long) (place_there (names_of_graphs file.graphs) file.top (left_none top_unknown (flat_map unknown file.graphs) none));
        each_graph = λ k d inside.
            subst (λ j. IsGraphInRange file.version all_made (j == top_of file) (slice_index_or all_made k d)) (zero-add k)
            (at_each (λ j made. IsGraphInRange file.version all_made (j == top_of file) made) (IsGraphOf file.version) unknown each_made
            (λ j g of_here none_here. graph_in tokens kernels file.graphs all_made all_long file.version (child_long each_made interfaces_made 0 file.graphs) (j == top_of file) g of_here none_here) 0 file.graphs of.graphs known k d inside);
      }
