-- Marks in place of delays change no fault but that of too many tokens.
use Rattle.std.proofs.Common.{◌≡◌, ◌==◌, ℕ, ◌+◌, ℤ, List, [], ◌∷◌, ◌++◌, length, map, Bool, not, ◌&&◌, ◌||◌, Option, Some, None, option_map, refl, sym, ap, ◌∙◌, arith}
use Rattle.std.specs.Prelude.{nat_le, nat_lt, slice_get, slice_index_or}
use Rattle.std.specs.List.{flat_map}
use Rattle.std.proofs.lemmas.Bool.{lt-ltb}
use Rattle.std.proofs.lemmas.Option.{slice_get-map}
use Rattle.pisdf_model.specs.Arrows.{on_cycles}
use Rattle.pisdf_model.specs.Details.{of_each, unless}
use Rattle.pisdf_model.specs.InterfaceWires.{fifo_misplaced, graph_misplaced, has_delay, interface_wire_faults, is_at_configuration, is_at_input, is_at_interface, is_at_output, is_misplaced}
use Rattle.pisdf_model.specs.Marked.{marked, marked_fifo, marked_graph, marked_graphs}
use Rattle.pisdf_model.specs.Nesting.{children, depth_faults, graph_cycle_faults, child_lists, nested_over}
use Rattle.pisdf_model.specs.ParamOrder.{is_late, order_faults, param_order_faults}
use Rattle.pisdf_model.specs.Parts.{input_names, inputs_of, interface_names, output_names, outputs_of}
use Rattle.pisdf_model.specs.Ports.{actor_ports, all_sets, body_fits, export_count, graph_ports, inherited_count, param_ports, ports_faults}
use Rattle.pisdf_model.specs.Wires.{actor_wires, end_text, ends_of, fifo_wires, gives_tokens, graph_wires, interface_wires, is_input_port, is_output_port, names_of_interfaces, actor_port_names, port_text, port_wires, takes_tokens, text_at, text_or_none, times_of_interface, times_of_port, wire_faults}
use Rattle.pisdf_model.specs.declared.actor.Actor.{Actor}
use Rattle.pisdf_model.specs.declared.actor.Body.{Body}
use Rattle.pisdf_model.specs.declared.actor.Body.TheVariants.{Kernel, Config, Child, ConfigChild}
use Rattle.pisdf_model.specs.declared.fifo.End.{End}
use Rattle.pisdf_model.specs.declared.fifo.End.TheVariants.{Interface, Port}
use Rattle.pisdf_model.specs.declared.fifo.Fifo.{Fifo}
use Rattle.pisdf_model.specs.declared.graph.Graph.{Graph}
use Rattle.pisdf_model.specs.declared.graph.Graphs.{Graphs}
use Rattle.pisdf_model.proofs.Alike.{alike_each, of_mapped, same_from}

-- ---- the graph at a place

module _ (graphs : List Graph) where
  abbrev all : List Graph
  all = map marked_graph graphs

  inputs_alike : (place : ℕ) → inputs_of (slice_get all place) ≡ inputs_of (slice_get graphs place)
  inputs_alike place = ap inputs_of (slice_get-map marked_graph graphs place) ∙ same (slice_get graphs place)
    where
      same : (o : Option Graph) → inputs_of (option_map marked_graph o) ≡ inputs_of o
      same None = refl
      same (Some g) = refl

  outputs_alike : (place : ℕ) → outputs_of (slice_get all place) ≡ outputs_of (slice_get graphs place)
  outputs_alike place = ap outputs_of (slice_get-map marked_graph graphs place) ∙ same (slice_get graphs place)
    where
      same : (o : Option Graph) → outputs_of (option_map marked_graph o) ≡ outputs_of o
      same None = refl
      same (Some g) = refl

  inherited_alike : (place : ℕ) → inherited_count (slice_get all place) ≡ inherited_count (slice_get graphs place)
  inherited_alike place = ap inherited_count (slice_get-map marked_graph graphs place) ∙ same (slice_get graphs place)
    where
      same : (o : Option Graph) → inherited_count (option_map marked_graph o) ≡ inherited_count o
      same None = refl
      same (Some g) = refl

  exports_alike : (place : ℕ) → export_count (slice_get all place) ≡ export_count (slice_get graphs place)
  exports_alike place = ap export_count (slice_get-map marked_graph graphs place) ∙ same (slice_get graphs place)
    where
      same : (o : Option Graph) → export_count (option_map marked_graph o) ≡ export_count o
      same None = refl
      same (Some g) = refl

  input_names_alike : (body : Body) → input_names all body ≡ input_names graphs body
  input_names_alike (Kernel kernel args ins outs) = refl
  input_names_alike (Config kernel args ins outs sets) = refl
  input_names_alike (Child graph args) = ap interface_names (inputs_alike graph)
  input_names_alike (ConfigChild graph args sets) = ap interface_names (inputs_alike graph)

  output_names_alike : (body : Body) → output_names all body ≡ output_names graphs body
  output_names_alike (Kernel kernel args ins outs) = refl
  output_names_alike (Config kernel args ins outs sets) = refl
  output_names_alike (Child graph args) = ap interface_names (outputs_alike graph)
  output_names_alike (ConfigChild graph args sets) = ap interface_names (outputs_alike graph)

  port_names_alike : (actor : Actor) → actor_port_names all actor ≡ actor_port_names graphs actor
  port_names_alike actor = ap (λ names. names ++ output_names all actor.body) (input_names_alike actor.body) ∙ ap (λ names. input_names graphs actor.body ++ names) (output_names_alike actor.body)

  -- ---- ports

  fits_alike : (fits : Body → Bool) (body : Body) → body_fits fits all body ≡ body_fits fits graphs body
  fits_alike fits (Kernel kernel args ins outs) = refl
  fits_alike fits (Config kernel args ins outs sets) = refl
  fits_alike fits (Child graph args) = ap (λ n. length args == n) (inherited_alike graph)
  fits_alike fits (ConfigChild graph args sets) =
      ap (λ n. (length args == n) && (length sets == export_count (slice_get all graph))) (inherited_alike graph)
      ∙ ap (λ n. (length args == inherited_count (slice_get graphs graph)) && (length sets == n)) (exports_alike graph)

  graph_ports_alike : (fits : Body → Bool) (is_top : Bool) (g : Graph) → graph_ports fits all is_top (marked_graph g) ≡ graph_ports fits graphs is_top g
  graph_ports_alike fits is_top g =
      ap (λ ds. ds ++ of_each (λ i p. param_ports is_top (all_sets g.actors) i p) g.params)
      (same_from (λ a actor. actor_ports fits all actor) (λ a actor. actor_ports fits graphs actor) (λ a actor. ap (λ test. unless test actor.name) (fits_alike fits actor.body)) 0 g.actors)

  -- ---- wires

  output_port_alike : (actor : Option Actor) (p : ℕ) → is_output_port all actor p ≡ is_output_port graphs actor p
  output_port_alike None p = refl
  output_port_alike (Some actor) p =
      ap (λ names. nat_le (length names) p && nat_lt p (length names + length (output_names all actor.body))) (input_names_alike actor.body)
      ∙ ap (λ names. nat_le (length (input_names graphs actor.body)) p && nat_lt p (length (input_names graphs actor.body) + length names)) (output_names_alike actor.body)

  input_port_alike : (actor : Option Actor) (p : ℕ) → is_input_port all actor p ≡ is_input_port graphs actor p
  input_port_alike None p = refl
  input_port_alike (Some actor) p = ap (λ names. nat_lt p (length names)) (input_names_alike actor.body)

  gives_alike : (g : Graph) (end : End) → gives_tokens all (marked_graph g) end ≡ gives_tokens graphs g end
  gives_alike g (Interface i) = refl
  gives_alike g (Port a p) = output_port_alike (slice_get g.actors a) p

  takes_alike : (g : Graph) (end : End) → takes_tokens all (marked_graph g) end ≡ takes_tokens graphs g end
  takes_alike g (Interface i) = refl
  takes_alike g (Port a p) = input_port_alike (slice_get g.actors a) p

  text_at_alike : (actor : Option Actor) (p : ℕ) → text_at all actor p ≡ text_at graphs actor p
  text_at_alike None p = refl
  text_at_alike (Some actor) p = ap (λ names. port_text actor.name (text_or_none (slice_get names p))) (port_names_alike actor)

  text_alike : (g : Graph) (end : End) → end_text all (marked_graph g) end ≡ end_text graphs g end
  text_alike g (Interface i) = refl
  text_alike g (Port a p) = text_at_alike (slice_get g.actors a) p

  fifo_wires_alike : (g : Graph) (f : Fifo) → fifo_wires all (marked_graph g) (marked_fifo f) ≡ fifo_wires graphs g f
  fifo_wires_alike g f =
      ap (λ test. unless test (end_text all (marked_graph g) f.tail) ++ unless (takes_tokens all (marked_graph g) f.head) (end_text all (marked_graph g) f.head)) (gives_alike g f.tail)
      ∙ ap (λ text. unless (gives_tokens graphs g f.tail) text ++ unless (takes_tokens all (marked_graph g) f.head) (end_text all (marked_graph g) f.head)) (text_alike g f.tail)
      ∙ ap (λ test. unless (gives_tokens graphs g f.tail) (end_text graphs g f.tail) ++ unless test (end_text all (marked_graph g) f.head)) (takes_alike g f.head)
      ∙ ap (λ text. unless (gives_tokens graphs g f.tail) (end_text graphs g f.tail) ++ unless (takes_tokens graphs g f.head) text) (text_alike g f.head)

  ends_alike : (fifos : List Fifo) → ends_of (map marked_fifo fifos) ≡ ends_of fifos
  ends_alike fifos = alike_each marked_fifo (λ n (f : Fifo). f.tail ∷ f.head ∷ []) (λ n (f : Fifo). f.tail ∷ f.head ∷ []) (λ n f. refl) fifos

  actor_wires_alike : (ends : List End) (a : ℕ) (actor : Actor) → actor_wires (times_of_port ends) all a actor ≡ actor_wires (times_of_port ends) graphs a actor
  actor_wires_alike ends a actor = ap (of_each (λ p name. port_wires (times_of_port ends) a actor.name p name)) (port_names_alike actor)

  -- the interfaces and ports at these ends
  abbrev standing : List End → List Graph → Graph → List (List ℕ)
  standing ends gs g = of_each (λ i name. interface_wires (times_of_interface ends) i name) (names_of_interfaces g) ++ of_each (λ a actor. actor_wires (times_of_port ends) gs a actor) g.actors

  standing_alike : (g : Graph) → standing (ends_of (map marked_fifo g.fifos)) all (marked_graph g) ≡ standing (ends_of g.fifos) graphs g
  standing_alike g =
      ap (λ ends. standing ends all g) (ends_alike g.fifos)
      ∙ ap (λ ds. of_each (λ i name. interface_wires (times_of_interface (ends_of g.fifos)) i name) (names_of_interfaces g) ++ ds)
      (same_from (λ a actor. actor_wires (times_of_port (ends_of g.fifos)) all a actor) (λ a actor. actor_wires (times_of_port (ends_of g.fifos)) graphs a actor) (actor_wires_alike (ends_of g.fifos)) 0 g.actors)

  graph_wires_alike : (g : Graph) → graph_wires all (marked_graph g) ≡ graph_wires graphs g
  graph_wires_alike g =
      ap (λ ds. ds ++ standing (ends_of (map marked_fifo g.fifos)) all (marked_graph g)) (alike_each marked_fifo (λ n f. fifo_wires all (marked_graph g) f) (λ n f. fifo_wires graphs g f) (λ n f. fifo_wires_alike g f) g.fifos)
      ∙ ap (λ ds. of_each (λ n f. fifo_wires graphs g f) g.fifos ++ ds) (standing_alike g)

-- ---- delays at interfaces

delay_alike : (delay : List ℤ) → nat_lt 0 (length (marked delay)) ≡ nat_lt 0 (length delay)
delay_alike [] = refl
delay_alike (token ∷ tokens) = sym (lt-ltb 0 (length (token ∷ tokens)) (omega arith))

abbrev misplaced_with : Bool → Graph → End → End → Bool
misplaced_with delayed g tail head =
    (is_at_interface tail && is_at_interface head)
    || (delayed && (is_at_interface tail || is_at_interface head))
    || (is_at_configuration g head && not (is_at_input g tail))
    || (is_at_configuration g tail && (delayed || is_at_output g head))

at_graph_alike : (delayed : Bool) (g : Graph) (tail head : End) → misplaced_with delayed (marked_graph g) tail head ≡ misplaced_with delayed g tail head
at_graph_alike delayed g (Interface i) (Interface j) = refl
at_graph_alike delayed g (Interface i) (Port b q) = refl
at_graph_alike delayed g (Port a p) (Interface j) = refl
at_graph_alike delayed g (Port a p) (Port b q) = refl

misplaced_alike : (g : Graph) (f : Fifo) → is_misplaced (marked_graph g) (marked_fifo f) ≡ is_misplaced g f
misplaced_alike g f = ap (λ delayed. misplaced_with delayed (marked_graph g) f.tail f.head) (delay_alike f.delay) ∙ at_graph_alike (has_delay f) g f.tail f.head

graph_misplaced_alike : (g : Graph) → graph_misplaced (marked_graph g) ≡ graph_misplaced g
graph_misplaced_alike g =
    alike_each marked_fifo (λ i f. fifo_misplaced (marked_graph g) i f) (λ i f. fifo_misplaced g i f) (λ i f. ap (λ test. unless (not test) (record { graph = g.name; fifo = i })) (misplaced_alike g f)) g.fifos

-- ---- orders

orders_alike : (g : Graph) → order_faults (marked_graph g) ≡ order_faults g
unfolding is_late
orders_alike g = refl

each_order_alike : (graphs : List Graph) → flat_map order_faults (map marked_graph graphs) ≡ flat_map order_faults graphs
each_order_alike [] = refl
each_order_alike (g ∷ graphs) = ap (λ ds. ds ++ flat_map order_faults (map marked_graph graphs)) (orders_alike g) ∙ ap (λ ds. order_faults g ++ ds) (each_order_alike graphs)

-- ---- the laws

module _ (graphs : Graphs) where
  pub ports_marked : (fits : Body → Bool) → ports_faults fits (marked_graphs graphs) ≡ ports_faults fits graphs
  ports_marked fits = alike_each marked_graph (λ n g. graph_ports fits (map marked_graph graphs.graphs) (n == graphs.top) g) (λ n g. graph_ports fits graphs.graphs (n == graphs.top) g) (λ n g. graph_ports_alike graphs.graphs fits (n == graphs.top) g) graphs.graphs

  pub wires_marked : wire_faults (marked_graphs graphs) ≡ wire_faults graphs
  wires_marked = alike_each marked_graph (λ n g. graph_wires (map marked_graph graphs.graphs) g) (λ n g. graph_wires graphs.graphs g) (λ n g. graph_wires_alike graphs.graphs g) graphs.graphs

  pub interface_wires_marked : interface_wire_faults (marked_graphs graphs) ≡ interface_wire_faults graphs
  interface_wires_marked = alike_each marked_graph (λ n g. graph_misplaced g) (λ n g. graph_misplaced g) (λ n g. graph_misplaced_alike g) graphs.graphs

  pub param_orders_marked : param_order_faults (marked_graphs graphs) ≡ param_order_faults graphs
  param_orders_marked = each_order_alike graphs.graphs

  names_marked : map (λ (g : Graph). g.name) (map marked_graph graphs.graphs) ≡ map (λ (g : Graph). g.name) graphs.graphs
  names_marked = of_mapped marked_graph (λ (g : Graph). g.name) (λ (g : Graph). g.name) (λ g. refl) graphs.graphs

  holds_marked : child_lists (marked_graphs graphs) ≡ child_lists graphs
  holds_marked = of_mapped marked_graph children children (λ g. refl) graphs.graphs

  -- the names of graphs at places that depend on what the graphs hold
  at_places : (places : List (List ℕ) → List ℕ) → map (λ place. slice_index_or (map (λ (g : Graph). g.name) (map marked_graph graphs.graphs)) place []) (places (child_lists (marked_graphs graphs)))
      ≡ map (λ place. slice_index_or (map (λ (g : Graph). g.name) graphs.graphs) place []) (places (child_lists graphs))
  at_places places =
      ap (λ names. map (λ place. slice_index_or names place []) (places (child_lists (marked_graphs graphs)))) names_marked
      ∙ ap (λ arrows. map (λ place. slice_index_or (map (λ (g : Graph). g.name) graphs.graphs) place []) (places arrows)) holds_marked

  pub cycles_marked : graph_cycle_faults (marked_graphs graphs) ≡ graph_cycle_faults graphs
  cycles_marked = at_places on_cycles

  pub depths_marked : depth_faults (marked_graphs graphs) ≡ depth_faults graphs
  depths_marked = at_places (λ arrows. nested_over arrows 8)
