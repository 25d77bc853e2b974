-- Laws of the graphs that a file means.
use Rattle.std.proofs.Common.{◌≡◌, ◌==◌, ℕ, zero, suc, ℤ, pos, List, [], ◌∷◌, ◌++◌, map, Bool, true, false, replicate, refl, sym, ap, ◌∙◌, arith}
use Rattle.std.specs.List.{enumerate_from}
use Rattle.std.proofs.lemmas.Bool.{cond-false}
use Rattle.std.proofs.lemmas.Bool.Decides.{nat_tests}
use Rattle.pisdf_model.specs.Count.{count_faults}
use Rattle.pisdf_model.specs.Details.{of_each, unless}
use Rattle.pisdf_model.specs.WellFormed.{WellFormed}
use Rattle.pisdf_model.specs.declared.actor.Body.TheVariants as body
use Rattle.kernel_gate.specs.Signed.{SignatureView}
use Rattle.graph_format.specs.Kernels.{kernel_names}
use Rattle.pisdf_model.specs.InterfaceWires.{interface_wire_faults}
use Rattle.pisdf_model.specs.Nesting.{depth_faults, graph_cycle_faults}
use Rattle.pisdf_model.specs.ParamOrder.{param_order_faults}
use Rattle.pisdf_model.specs.Ports.{body_fits, ports_faults}
use Rattle.pisdf_model.specs.Wires.{wire_faults}
use Rattle.pisdf_model.specs.declared.actor.Body.{Body}
use Rattle.pisdf_model.specs.declared.graph.Graphs.{Graphs}
use Rattle.pisdf_model.proofs.MarkedFaults.{cycles_marked, depths_marked, interface_wires_marked, param_orders_marked, ports_marked, wires_marked}
use Rattle.graph_format.specs.Faults.{at_fifo, file_faults, fits_kernel, graphs_of, rule_faults}
use Rattle.graph_format.specs.declared.graph_fault.GraphFault.TheVariants.{Depth, GraphCycle, ParamOrder, Ports, Wire}
use Rattle.pisdf_model.specs.Marked.{marked, marked_fifo, marked_graph, marked_graphs}
use Rattle.pisdf_model.specs.Names as model
use Rattle.pisdf_model.specs.Range.{life_of}
use Rattle.pisdf_model.specs.declared.names.Scope.TheVariants as scope
use Rattle.pisdf_model.specs.declared.names.ScopedName.{ScopedName}
use Rattle.pisdf_model.specs.declared.actor.Port.{Port}
use Rattle.pisdf_model.specs.declared.fifo.Life.{Life}
use Rattle.pisdf_model.specs.declared.param.Param.{Param}
use Rattle.pisdf_model.specs.declared.graph.Graph.{Graph}
use Rattle.pisdf_model.specs.declared.graph.Interface.{Interface}
use Rattle.pisdf_model.proofs.Alike.{alike_each, alike_numbered, of_mapped}
use Rattle.graph_format.proofs.NoFaults.{HasNoRuleFaults, no_file_faults, no_rule_faults}
use Rattle.graph_format.proofs.PortFaults.{graphs_pass}
use Rattle.graph_format.specs.FileNames.{actor_walk, graph_walk, names_of_file, own_port_names}
use Rattle.graph_format.specs.Placed.{mark_of, placed, placed_actor, placed_body, placed_end, placed_fifo, placed_graph, placed_interface, placed_param, placed_port, tokens_of, top_of}
use Rattle.graph_format.specs.KnownNames.{KnownNames, known_names}
use Rattle.graph_format.specs.declared.actor.FileActor.{FileActor}
use Rattle.graph_format.specs.declared.actor.FileBody.{FileBody}
use Rattle.graph_format.specs.declared.actor.FileBody.TheVariants.{Kernel, Config, Child, ConfigChild}
use Rattle.graph_format.specs.declared.fifo.FileDelay.{FileDelay}
use Rattle.graph_format.specs.declared.fifo.FileDelay.TheVariants.{Zeros, Tokens}
use Rattle.graph_format.specs.declared.fifo.FileFifo.{FileFifo}
use Rattle.graph_format.specs.declared.file.File.{File}
use Rattle.graph_format.specs.declared.file.FileGraph.{FileGraph}
use Rattle.graph_format.specs.declared.param.FileParam.{FileParam}
use Rattle.graph_format.specs.declared.port.FilePort.{FilePort}

-- ---- names

module _ (s : KnownNames) where
  pub port_names_kept : (ports : List FilePort) → map (λ (p : Port). p.name) (map (placed_port s) ports) ≡ map (λ (p : FilePort). p.name) ports
  port_names_kept ports = of_mapped (placed_port s) (λ (p : Port). p.name) (λ (p : FilePort). p.name) (λ p. refl) ports

  pub interface_names_kept : (ports : List FilePort) → map (λ (i : Interface). i.name) (map (placed_interface s) ports) ≡ map (λ (p : FilePort). p.name) ports
  interface_names_kept ports = of_mapped (placed_interface s) (λ (i : Interface). i.name) (λ (p : FilePort). p.name) (λ p. refl) ports

  pub param_names_kept : (params : List FileParam) → map (λ (p : Param). p.name) (map (placed_param s) params) ≡ map (λ (p : FileParam). p.name) params
  param_names_kept params = of_mapped (placed_param s) (λ (p : Param). p.name) (λ (p : FileParam). p.name) (λ p. refl) params

  own_names_kept : (b : FileBody) → model.own_port_names (placed_body s b) ≡ own_port_names b
  own_names_kept (Kernel kernel args ins outs) =
      ap (λ names. names ++ map (λ (p : Port). p.name) (map (placed_port s) outs)) (port_names_kept ins) ∙ ap (λ names. map (λ (p : FilePort). p.name) ins ++ names) (port_names_kept outs)
  own_names_kept (Config kernel args ins outs sets) = ap (λ names. ins ++ names) (port_names_kept outs)
  own_names_kept (Child graph args) = refl
  own_names_kept (ConfigChild graph args sets) = refl

  actor_names_kept : (n a : ℕ) (actor : FileActor) → model.actor_walk n a (placed_actor s actor) ≡ actor_walk n a actor
  actor_names_kept n a actor = ap (λ names. record { scope = scope.Parts n; name = actor.name } ∷ model.scoped (scope.Ports n a) names) (own_names_kept actor.body)

  graph_names_kept : (version : ℕ) (tokens : FileDelay → List ℤ) (is_top : Bool) (n : ℕ) (g : FileGraph) → model.graph_walk n (placed_graph version tokens is_top s g) ≡ graph_walk n g
  graph_names_kept version tokens is_top n g =
      let own : ScopedName = record { scope = scope.Graphs; name = g.name } in
      let scoped : List (List ℕ) → List ScopedName = model.scoped (scope.Parts n) in
      let inputs = map (placed_interface s) g.inputs in
      let outputs = map (placed_interface s) g.outputs in
      let walk : List ScopedName = of_each (λ a actor. model.actor_walk n a actor) (map (placed_actor s) g.actors) in
      let named : List Interface → List (List ℕ) = map (λ (i : Interface). i.name) in
      let stated : List FilePort → List (List ℕ) = map (λ (p : FilePort). p.name) in
      ap (λ names. own ∷ (scoped names ++ (scoped (named inputs) ++ (scoped (named outputs) ++ walk)))) (param_names_kept g.params)
      ∙ ap (λ names. own ∷ (scoped (map (λ (p : FileParam). p.name) g.params) ++ (scoped names ++ (scoped (named outputs) ++ walk)))) (interface_names_kept g.inputs)
      ∙ ap (λ names. own ∷ (scoped (map (λ (p : FileParam). p.name) g.params) ++ (scoped (stated g.inputs) ++ (scoped names ++ walk)))) (interface_names_kept g.outputs)
      ∙ ap (λ names. own ∷ (scoped (map (λ (p : FileParam). p.name) g.params) ++ (scoped (stated g.inputs) ++ (scoped (stated g.outputs) ++ names))))
      (alike_each (placed_actor s) (λ a actor. model.actor_walk n a actor) (λ a actor. actor_walk n a actor) (λ a actor. actor_names_kept n a actor) g.actors)

-- the names of graphs are those of their file
pub names_kept : (tokens : FileDelay → List ℤ) (kernels : List (List ℕ)) (file : File) → model.names_of (placed tokens kernels file) ≡ names_of_file file
names_kept tokens kernels file =
    alike_numbered (λ (p : ℕ × FileGraph). placed_graph file.version tokens (p.0 == top_of file) (known_names kernels file.graphs p.1) p.1) (λ n g. model.graph_walk n g) (λ n g. graph_walk n g)
    (λ n g. graph_names_kept (known_names kernels file.graphs g) file.version tokens (n == top_of file) n g) file.graphs

-- ---- marks

marked_zeros : (n : ℕ) → marked (replicate n (pos 0)) ≡ mark_of (Zeros n)
marked_zeros zero = refl
marked_zeros (suc n) =
    let some : (suc n == 0) ≡ false = grind (arith, nat_tests) in
    sym (cond-false (suc n == 0) [] (pos 0 ∷ []) some)

marked_delay : (delay : FileDelay) → marked (tokens_of delay) ≡ mark_of delay
marked_delay (Zeros n) = marked_zeros n
marked_delay (Tokens tokens) = refl

module _ (version : ℕ) (is_top : Bool) (s : KnownNames) where
  life_kept : (stated : Life) (tokens : List ℤ) → life_of version is_top stated tokens ≡ life_of version is_top stated (marked tokens)
  life_kept stated [] = refl
  life_kept stated (t ∷ ts) = refl

  fifo_marked : (f : FileFifo) → marked_fifo (placed_fifo version tokens_of is_top s f) ≡ placed_fifo version mark_of is_top s f
  fifo_marked f =
      ap (λ life. record { tail = placed_end s f.from; head = placed_end s f.to; delay = marked (tokens_of f.delay); life = life }) (life_kept f.life (tokens_of f.delay))
      ∙ ap (λ delay. record { tail = placed_end s f.from; head = placed_end s f.to; delay = delay; life = life_of version is_top f.life delay }) (marked_delay f.delay)

  fifos_marked : (fs : List FileFifo) → map marked_fifo (map (placed_fifo version tokens_of is_top s) fs) ≡ map (placed_fifo version mark_of is_top s) fs
  fifos_marked fs = of_mapped (placed_fifo version tokens_of is_top s) marked_fifo (placed_fifo version mark_of is_top s) fifo_marked fs

  graph_marked : (g : FileGraph) → marked_graph (placed_graph version tokens_of is_top s g) ≡ placed_graph version mark_of is_top s g
  graph_marked g =
      let placed_g = placed_graph version tokens_of is_top s g in
      ap (λ fifos. record { name = placed_g.name; params = placed_g.params; inputs = placed_g.inputs; outputs = placed_g.outputs; actors = placed_g.actors; fifos = fifos; exports = placed_g.exports }) (fifos_marked g.fifos)

-- resolving with marks gives the graphs with marks
pub placed_marked : (kernels : List (List ℕ)) (file : File) → marked_graphs (placed tokens_of kernels file) ≡ placed mark_of kernels file
placed_marked kernels file =
    let each : (FileDelay → List ℤ) → ℕ × FileGraph → Graph = λ tokens p. placed_graph file.version tokens (p.0 == top_of file) (known_names kernels file.graphs p.1) p.1 in
    ap (λ (graphs : List Graph). record { version = file.version; top = top_of file; graphs = graphs })
    (of_mapped (each tokens_of) marked_graph (each mark_of) (λ p. graph_marked file.version (p.0 == top_of file) (known_names kernels file.graphs p.1) p.1) (enumerate_from 0 file.graphs))

-- and those change no fault of graphs but that of too many tokens
pub rules_marked : (fits : Body → Bool) (graphs : Graphs) → rule_faults fits (marked_graphs graphs) ≡ rule_faults fits graphs
rules_marked fits graphs =
    let m = marked_graphs graphs in
    ap (λ ds. map Ports ds ++ (map Wire (wire_faults m) ++ (map at_fifo (interface_wire_faults m) ++ (map ParamOrder (param_order_faults m) ++ (map GraphCycle (graph_cycle_faults m) ++ map Depth (depth_faults m)))))) (ports_marked graphs fits)
    ∙ ap (λ ds. map Ports (ports_faults fits graphs) ++ (map Wire ds ++ (map at_fifo (interface_wire_faults m) ++ (map ParamOrder (param_order_faults m) ++ (map GraphCycle (graph_cycle_faults m) ++ map Depth (depth_faults m)))))) (wires_marked graphs)
    ∙ ap (λ ds. map Ports (ports_faults fits graphs) ++ (map Wire (wire_faults graphs) ++ (map at_fifo ds ++ (map ParamOrder (param_order_faults m) ++ (map GraphCycle (graph_cycle_faults m) ++ map Depth (depth_faults m)))))) (interface_wires_marked graphs)
    ∙ ap (λ ds. map Ports (ports_faults fits graphs) ++ (map Wire (wire_faults graphs) ++ (map at_fifo (interface_wire_faults graphs) ++ (map ParamOrder ds ++ (map GraphCycle (graph_cycle_faults m) ++ map Depth (depth_faults m)))))) (param_orders_marked graphs)
    ∙ ap (λ ds. map Ports (ports_faults fits graphs) ++ (map Wire (wire_faults graphs) ++ (map at_fifo (interface_wire_faults graphs) ++ (map ParamOrder (param_order_faults graphs) ++ (map GraphCycle ds ++ map Depth (depth_faults m)))))) (cycles_marked graphs)
    ∙ ap (λ ds. map Ports (ports_faults fits graphs) ++ (map Wire (wire_faults graphs) ++ (map at_fifo (interface_wire_faults graphs) ++ (map ParamOrder (param_order_faults graphs) ++ (map GraphCycle (graph_cycle_faults graphs) ++ map Depth ds))))) (depths_marked graphs)

-- ---- files without a fault

-- actors that fit their kernels fit where kernels aren't looked at
fit_any : (fits : Body → Bool) (graphs : List Graph) (b : Body) (name : List ℕ) → unless (body_fits fits graphs b) name ≡ [] → unless (body_fits (λ body. true) graphs b) name ≡ []
fit_any fits graphs (body.Kernel kernel args ins outs) name none = refl
fit_any fits graphs (body.Config kernel args ins outs sets) name none = refl
fit_any fits graphs (body.Child graph args) name none = none
fit_any fits graphs (body.ConfigChild graph args sets) name none = none

all_none : (fits : Body → Bool) (g : Graphs) → model.duplicate_faults g ≡ [] → HasNoRuleFaults fits g → count_faults g ≡ [] → WellFormed g
all_none fits g duplicates none counts =
    let ports = graphs_pass fits (λ body. true) (λ actor. Unit {0}) g.graphs (λ actor unit. fit_any fits g.graphs actor.body actor.name) g.top 0 g.graphs (λ n h inside a actor there. tt) none.ports in
    rw (duplicates, ports, none.wires, none.interface_wires, none.orders, none.cycles, none.depths, counts) refl

-- the graphs of a file without a fault are well formed
pub well_formed : (signatures : List SignatureView) (file : File) → file_faults signatures file ≡ [] → WellFormed (graphs_of signatures file)
well_formed signatures file none =
    let g = graphs_of signatures file in
    let fits = fits_kernel signatures in
    let has = no_file_faults signatures file none in
    all_none fits g (ap model.repeats (names_kept tokens_of (kernel_names signatures) file) ∙ has.duplicates) (no_rule_faults fits g has.rules) has.counts
