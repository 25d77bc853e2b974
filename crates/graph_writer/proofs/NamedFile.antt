-- The graphs that a file means, named again, are the file with its delays as the canonical file states them.
use Rattle.std.proofs.Common.{◌≡◌, ℕ, ◌==◌, ℤ, Bool, false, true, if◌then◌else◌, List, [], ◌∷◌, ◌++◌, map, refl, sym, ap, ◌∙◌}
use Rattle.std.specs.Prelude.{Option, Some, None, is_none, slice_index_or, unwrap_or}
use Rattle.std.specs.List.{enumerate_from, flat_map}
use Rattle.std.proofs.lemmas.List.Concat.{flat_map-append}
use Rattle.kernel_gate.specs.Signed.{SignatureView}
use Rattle.param_expr.specs.Bind.{names_of, place_of, placed_in}
use Rattle.param_expr.specs.Named as expr
use Rattle.param_expr.specs.Named.{NamedTree}
use Rattle.param_expr.specs.Print.{with_names}
use Rattle.pisdf_model.specs.Range.{first_life, life_of}
use Rattle.pisdf_model.specs.Wires.{port_text}
use Rattle.pisdf_model.specs.declared.fifo.Life.{Life}
use Rattle.pisdf_model.specs.declared.fifo.Life.TheVariants.{Firing}
use Rattle.pisdf_model.specs.declared.graph.Graph.{Graph}
use Rattle.pisdf_model.specs.declared.graph.Graphs.{Graphs}
use Rattle.graph_format.specs.Kernels.{is_of_config, is_of_kernel, kernel_names, signature_named, unfit_in_body, unfit_in_file, unfit_in_graph}
use Rattle.graph_format.specs.Named as named
use Rattle.graph_format.specs.Named.{name_at_place, named_actor, named_body, named_end, named_fifo, named_file, named_graph, named_interface, named_kind, named_param, named_port, names_of_params, stated_delay, stated_life}
use Rattle.graph_format.specs.Placed.{first_place, placed_actor, placed_body, placed_end, placed_fifo, placed_graph, placed_interface, placed_kind, placed_param, placed_port, ports_named, tokens_of, top_of}
use Rattle.graph_format.specs.References.{missing, unknown_in_actor, unknown_in_body, unknown_in_end, unknown_in_expr, unknown_in_fifo, unknown_in_file, unknown_in_graph, unknown_in_kind, unknown_in_param, unknown_in_port}
use Rattle.graph_format.specs.KnownNames.{KnownNames, names_at, names_of_graphs}
use Rattle.graph_format.specs.declared.actor.FileActor.{FileActor}
use Rattle.graph_format.specs.declared.actor.FileBody.{FileBody}
use Rattle.graph_format.specs.declared.actor.FileBody.TheVariants.{Kernel, Config, Child, ConfigChild}
use Rattle.graph_format.specs.declared.fifo.FileEnd.{FileEnd}
use Rattle.graph_format.specs.declared.fifo.FileEnd.TheVariants.{Interface, Port}
use Rattle.graph_format.specs.declared.fifo.FileFifo.{FileFifo}
use Rattle.graph_format.specs.declared.file.File.{File}
use Rattle.graph_format.specs.declared.file.FileGraph.{FileGraph}
use Rattle.graph_format.specs.declared.param.FileParam.{FileParam}
use Rattle.graph_format.specs.declared.param.FileParamKind.{FileParamKind}
use Rattle.graph_format.specs.declared.param.FileParamKind.TheVariants.{Inherited, Derived, Chosen}
use Rattle.graph_format.specs.declared.port.FilePort.{FilePort}
use Rattle.graph_writer.proofs.KernelPlaces.{passes_there}
use Rattle.graph_writer.proofs.KeptNames.{HasNames, graph_names, graphs, here, meant, names_kept, again_where, each_none, each_numbered, found, known, name_again, none_where, unless_none, unnumbered}
use Rattle.graph_format.proofs.NoFaults.{neither}
use Rattle.graph_writer.proofs.Resolving.{each_again, each_alike}

-- ---- delays and lives as the canonical file states them

-- the life that is read, stated again: whether the graph is the top one makes no difference, since version 1 states no life
abbrev pub restated_life : ℕ → Life → List ℤ → Life
restated_life version life tokens = stated_life version (life_of version false life tokens)

same_life : (version : ℕ) (is_top : Bool) (life : Life) (tokens : List ℤ) → stated_life version (life_of version is_top life tokens) ≡ restated_life version life tokens
same_life version is_top life [] = refl
same_life version is_top life (t ∷ ts) = go (version == 1)
  where
    go : (first : Bool) → (if first then Firing else (if first then first_life is_top else life)) ≡ (if first then Firing else (if first then first_life false else life))
    go true = refl
    go false = refl

abbrev pub restated_fifo : ℕ → FileFifo → FileFifo
restated_fifo version f = record { from = f.from; to = f.to; delay = stated_delay (tokens_of f.delay); life = restated_life version f.life (tokens_of f.delay) }

abbrev pub restated_graph : ℕ → FileGraph → FileGraph
restated_graph version g = record { name = g.name; params = g.params; inputs = g.inputs; outputs = g.outputs; actors = g.actors; fifos = map (restated_fifo version) g.fifos; exports = g.exports }

abbrev pub restated : File → File
restated file = record { version = file.version; top = file.top; graphs = map (restated_graph file.version) file.graphs }

-- ---- the parts of a graph

module _ (signatures : List SignatureView) (all : Graphs) (s : KnownNames) (g : Graph)
    (children : named.names_of_graphs all ≡ s.graphs) (kernels : s.kernels ≡ kernel_names signatures) (kept : HasNames s all g) where
  abbrev names : List (List ℕ)
  names = names_of_params g

  param_name : (w : List ℕ) → missing s.params w ≡ [] → name_at_place names (first_place s.params w) ≡ w
  param_name w none = name_again s.params names w kept.params (known s.params w none)

  params_again : (ws : List (List ℕ)) → flat_map (missing s.params) ws ≡ [] → map (name_at_place names) (map (first_place s.params) ws) ≡ ws
  params_again ws none = again_where (first_place s.params) (name_at_place names) (missing s.params) param_name ws none

  expr_again : (t : NamedTree) → unknown_in_expr s t ≡ [] → with_names names (placed_in s.params t) ≡ t
  expr_again (expr.number z) none = refl
  expr_again (expr.name w) none = ap (λ n. expr.name n) (param_name w (neither (missing s.params w) [] none).0)
  expr_again (expr.binary op a b) none =
      let both = neither (unknown_in_expr s a) (unknown_in_expr s b) (sym (flat_map-append (missing s.params) (names_of a) (names_of b)) ∙ none) in
      rw (expr_again a both.0, expr_again b both.1) refl

  exprs_again : (ts : List NamedTree) → flat_map (unknown_in_expr s) ts ≡ [] → map (with_names names) (map (placed_in s.params) ts) ≡ ts
  exprs_again ts none = again_where (placed_in s.params) (with_names names) (unknown_in_expr s) expr_again ts none

  kind_again : (k : FileParamKind) → unknown_in_kind s k ≡ [] → named_kind names (placed_kind s k) ≡ k
  kind_again Inherited none = refl
  kind_again (Derived expr) none = ap (λ e. Derived e) (expr_again expr none)
  kind_again Chosen none = refl

  param_again : (p : FileParam) → unknown_in_param s p ≡ [] → named_param names (placed_param s p) ≡ p
  param_again p none = ap (λ kind. record { name = p.name; kind = kind; low = p.low; high = p.high }) (kind_again p.kind none)

  port_again : (p : FilePort) → unknown_in_port s p ≡ [] → named_port names (placed_port s p) ≡ p
  port_again p none = ap (λ rate. record { name = p.name; rate = rate }) (expr_again p.rate none)

  ports_again : (ps : List FilePort) → flat_map (unknown_in_port s) ps ≡ [] → map (named_port names) (map (placed_port s) ps) ≡ ps
  ports_again ps none = again_where (placed_port s) (named_port names) (unknown_in_port s) port_again ps none

  interface_again : (p : FilePort) → unknown_in_port s p ≡ [] → named_interface names (placed_interface s p) ≡ p
  interface_again p none = ap (λ rate. record { name = p.name; rate = rate }) (expr_again p.rate none)

  interfaces_again : (ps : List FilePort) → flat_map (unknown_in_port s) ps ≡ [] → map (named_interface names) (map (placed_interface s) ps) ≡ ps
  interfaces_again ps none = again_where (placed_interface s) (named_interface names) (unknown_in_port s) interface_again ps none

  kernel_again : (w : List ℕ) → is_none (place_of (kernel_names signatures) w) ≡ false → name_at_place (kernel_names signatures) (first_place s.kernels w) ≡ w
  kernel_again w some =
      ap (λ ns. name_at_place (kernel_names signatures) (first_place ns w)) kernels
      ∙ name_again (kernel_names signatures) (kernel_names signatures) w refl (found (kernel_names signatures) w some)

  body_again : (b : FileBody) → unknown_in_body s b ≡ [] → unfit_in_body signatures b ≡ [] → named_body (kernel_names signatures) all names (placed_body s b) ≡ b
  body_again (Kernel kernel args ins outs) none fits =
      let of_args = flat_map (unknown_in_expr s) args in
      let of_ins = flat_map (unknown_in_port s) ins in
      let front = neither (of_args ++ of_ins) (flat_map (unknown_in_port s) outs) none in
      let both = neither of_args of_ins front.0 in
      let there = (passes_there is_of_kernel refl signatures kernel (unless_none (is_of_kernel (signature_named signatures kernel)) kernel fits)).named in
      rw (kernel_again kernel there, exprs_again args both.0, ports_again ins both.1, ports_again outs front.1) refl
  body_again (Config kernel args ins outs sets) none fits =
      let of_args = flat_map (unknown_in_expr s) args in
      let of_outs = flat_map (unknown_in_port s) outs in
      let front = neither (of_args ++ of_outs) (flat_map (missing s.params) sets) none in
      let both = neither of_args of_outs front.0 in
      let there = (passes_there is_of_config refl signatures kernel (unless_none (is_of_config (signature_named signatures kernel)) kernel fits)).named in
      rw (kernel_again kernel there, exprs_again args both.0, ports_again outs both.1, params_again sets front.1) refl
  body_again (Child child args) none fits =
      let both = neither (missing s.graphs child) (flat_map (unknown_in_expr s) args) none in
      rw (name_again s.graphs (named.names_of_graphs all) child children (known s.graphs child both.0), exprs_again args both.1) refl
  body_again (ConfigChild child args sets) none fits =
      let of_graph = missing s.graphs child in
      let of_args = flat_map (unknown_in_expr s) args in
      let front = neither (of_graph ++ of_args) (flat_map (missing s.params) sets) none in
      let both = neither of_graph of_args front.0 in
      rw (name_again s.graphs (named.names_of_graphs all) child children (known s.graphs child both.0), exprs_again args both.1, params_again sets front.1) refl

  actor_again : (a : FileActor) → (unknown_in_actor s a ≡ []) × (unfit_in_body signatures a.body ≡ []) → named_actor (kernel_names signatures) all names (placed_actor s a) ≡ a
  actor_again a none = ap (λ b. record { name = a.name; body = b }) (body_again a.body none.0 none.1)

  -- the actor of a port that is there
  actor_there : (port : List ℕ) (o : Option ℕ) → is_none (place_of (names_at s.ports o) port) ≡ false → is_none o ≡ false
  actor_there port None some = absurd cc
  actor_there port (Some a) some = refl

  ports_there : (o : Option ℕ) → is_none o ≡ false → slice_index_or s.ports (unwrap_or o 0) [] ≡ names_at s.ports o
  ports_there None some = absurd cc
  ports_there (Some a) some = refl

  end_again : (e : FileEnd) → unknown_in_end s e ≡ [] → named_end all g (placed_end s e) ≡ e
  end_again (Interface w) none = ap (λ n. Interface n) (name_again s.interfaces (named.names_of_interfaces g) w kept.interfaces (known s.interfaces w none))
  end_again (Port actor port) none =
      let there = none_where (is_none (place_of (ports_named s actor) port)) (port_text actor port) none in
      let some = actor_there port (place_of s.actors actor) there in
      let same : named.names_of_ports_at all g (first_place s.actors actor) ≡ ports_named s actor = ap (λ lists. slice_index_or lists (first_place s.actors actor) []) kept.ports ∙ ports_there (place_of s.actors actor) some in
      let of_actor = name_again s.actors (named.names_of_actors g) actor kept.actors (found s.actors actor some) in
      let of_port = name_again (ports_named s actor) (named.names_of_ports_at all g (first_place s.actors actor)) port same (found (ports_named s actor) port there) in
      ap (λ n. Port n (name_at_place (named.names_of_ports_at all g (first_place s.actors actor)) (first_place (ports_named s actor) port))) of_actor ∙ ap (Port actor) of_port

  fifo_again : (is_top : Bool) (f : FileFifo) → unknown_in_fifo s f ≡ [] → named_fifo all g (placed_fifo all.version tokens_of is_top s f) ≡ restated_fifo all.version f
  fifo_again is_top f none =
      let both = neither (unknown_in_end s f.from) (unknown_in_end s f.to) none in
      rw (end_again f.from both.0, end_again f.to both.1, same_life all.version is_top f.life (tokens_of f.delay)) refl

-- ---- graphs

module _ (signatures : List SignatureView) (file : File) where
  abbrev kernels : List (List ℕ)
  kernels = kernel_names signatures

  graph_again : (is_top : Bool) (g : FileGraph) → unknown_in_graph (here kernels file g) g ≡ [] → unfit_in_graph signatures g ≡ []
      → named_graph (kernel_names signatures) (graphs kernels file) (placed_graph file.version tokens_of is_top (here kernels file g) g) ≡ restated_graph file.version g
  unfolding named_graph
  graph_again is_top g none fits =
      let s = here kernels file g in
      let all = graphs kernels file in
      let placed_g = placed_graph file.version tokens_of is_top s g in
      let of_params = flat_map (unknown_in_param s) g.params in
      let of_inputs = flat_map (unknown_in_port s) g.inputs in
      let of_outputs = flat_map (unknown_in_port s) g.outputs in
      let of_actors = flat_map (unknown_in_actor s) g.actors in
      let of_fifos = flat_map (unknown_in_fifo s) g.fifos in
      let with_exports = neither (of_params ++ of_inputs ++ of_outputs ++ of_actors ++ of_fifos) (flat_map (missing s.params) g.exports) none in
      let with_fifos = neither (of_params ++ of_inputs ++ of_outputs ++ of_actors) of_fifos with_exports.0 in
      let with_actors = neither (of_params ++ of_inputs ++ of_outputs) of_actors with_fifos.0 in
      let with_outputs = neither (of_params ++ of_inputs) of_outputs with_actors.0 in
      let with_inputs = neither of_params of_inputs with_outputs.0 in
      let children = graph_names kernels file in
      let kept : HasNames s all placed_g = names_kept kernels file is_top g with_actors.1 in
      let unknown = each_none (unknown_in_actor s) g.actors with_actors.1 in
      let unfit = each_none (λ (a : FileActor). unfit_in_body signatures a.body) g.actors fits in
      let params = again_where (placed_param s) (named_param (names_of_params placed_g)) (unknown_in_param s) (param_again signatures all s placed_g children refl kept) g.params with_inputs.0 in
      let inputs = interfaces_again signatures all s placed_g children refl kept g.inputs with_inputs.1 in
      let outputs = interfaces_again signatures all s placed_g children refl kept g.outputs with_outputs.1 in
      let actors =
      each_again (placed_actor s) (named_actor (kernel_names signatures) all (names_of_params placed_g)) (λ a. (unknown_in_actor s a ≡ []) × (unfit_in_body signatures a.body ≡ []))
      (actor_again signatures all s placed_g children refl kept) g.actors (λ k d inside. (unknown k d inside, unfit k d inside)) in
      let fifos =
      each_alike (placed_fifo file.version tokens_of is_top s) (named_fifo all placed_g) (restated_fifo file.version) (λ f. unknown_in_fifo s f ≡ [])
      (fifo_again signatures all s placed_g children refl kept is_top) g.fifos (each_none (unknown_in_fifo s) g.fifos with_fifos.1) in
      let exports = params_again signatures all s placed_g children refl kept g.exports with_exports.1 in
      rw (params, inputs, outputs, actors, fifos, exports) refl

  -- ---- files

  pub placed_then_named : unknown_in_file file ≡ [] → unfit_in_file signatures file ≡ [] → named_file (kernel_names signatures) (graphs kernels file) ≡ restated file
  unfolding named_file
  placed_then_named unknown unfit =
      let all = graphs kernels file in
      let both = neither (missing (names_of_graphs file.graphs) file.top) (flat_map (λ g. unknown_in_graph (here [] file g) g) file.graphs) unknown in
      let top = name_again (names_of_graphs file.graphs) (named.names_of_graphs all) file.top (graph_names kernels file) (known (names_of_graphs file.graphs) file.top both.0) in
      let each_unknown = each_none (λ g. unknown_in_graph (here [] file g) g) file.graphs both.1 in
      let each_unfit = each_none (unfit_in_graph signatures) file.graphs unfit in
      let each =
      each_alike (meant kernels file) (named_graph (kernel_names signatures) all) (λ (p : ℕ × FileGraph). restated_graph file.version p.1)
      (λ p. (unknown_in_graph (here kernels file p.1) p.1 ≡ []) × (unfit_in_graph signatures p.1 ≡ []))
      (λ p none. graph_again (p.0 == top_of file) p.1 none.0 none.1)
      (enumerate_from 0 file.graphs)
      (each_numbered (λ g. (unknown_in_graph (here kernels file g) g ≡ []) × (unfit_in_graph signatures g ≡ [])) 0 file.graphs (λ k d inside. (each_unknown k d inside, each_unfit k d inside)))
      ∙ unnumbered (restated_graph file.version) 0 file.graphs in
      ap (λ name. record { version = file.version; top = name; graphs = map (named_graph (kernel_names signatures) all) all.graphs }) top
      ∙ ap (λ (gs : List FileGraph). record { version = file.version; top = file.top; graphs = gs }) each
