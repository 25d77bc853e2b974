-- The faults of unfolded graphs are those of the graphs.
use Rattle.std.proofs.Common.{◌≡◌, ℕ, zero, suc, ◌+◌, ◌==◌, ◌&&◌, ◌||◌, not, Bool, true, nat_lt, nat_le, ℤ, List, get_or, [], ◌∷◌, ◌++◌, length, map, slice_get, Option, Some, None, refl, ap, ◌∙◌}
use Rattle.std.proofs.lemmas.List.{append-nil, length-map}
use Rattle.std.specs.List.{filter, flat_map, list_any}
use mathlib.Core.Path.{fun_ext}
use Rattle.pisdf_model.specs.Arrows.{on_cycles}
use Rattle.pisdf_model.specs.Count.{counts_of, excess_of, graph_counts, count_faults, graphs_limit, word_of}
use Rattle.pisdf_model.specs.Details.{of_each, unless}
use Rattle.pisdf_model.specs.Hold.{graph_state, has_large_hold, hold, hold_limit, in_line, initial, initial_to, is_named}
use Rattle.pisdf_model.specs.InterfaceWires.{fifo_misplaced, graph_misplaced, interface_wire_faults, is_at_configuration, is_at_input, is_at_output, is_misplaced}
use Rattle.pisdf_model.specs.Names.{graph_walk, actor_walk, names_of, repeats, scoped}
use Rattle.pisdf_model.specs.Nesting.{child_lists, children, depth_faults, graph_cycle_faults, graph_name, nested_over, nesting_limit}
use Rattle.pisdf_model.specs.ParamOrder.{config_places, early_places, is_late, order_faults, param_name, param_order_faults, places_of, references}
use Rattle.pisdf_model.specs.Parts.{input_count, input_names, inputs_of, interface_names, output_names, outputs_of, port_count}
use Rattle.pisdf_model.specs.Ports.{actor_ports, all_sets, body_fits, export_count, graph_ports, inherited_count, param_ports, ports_faults}
use Rattle.pisdf_model.specs.WellFormed.{graphs_at, model_faults, with_number}
use Rattle.pisdf_model.specs.Wires.{actor_port_names, actor_wires, end_text, ends_of, fifo_wires, gives_tokens, graph_wires, interface_wires, is_input_port, is_output_port, names_of_interfaces, port_text, port_wires, takes_tokens, text_at, text_or_none, times_of_interface, times_of_port, wire_faults}
use Rattle.pisdf_model.specs.declared.actor.Actor.{Actor}
use Rattle.pisdf_model.specs.declared.actor.Body.{Body}
use Rattle.pisdf_model.specs.declared.actor.Body.TheVariants.{Kernel, Config, Child, ConfigChild}
use Rattle.pisdf_model.specs.declared.counting.Counted.{Counted}
use Rattle.pisdf_model.specs.declared.counting.Counted.TheVariants as counted
use Rattle.pisdf_model.specs.declared.fifo.End.{End}
use Rattle.pisdf_model.specs.declared.fifo.End.TheVariants.{Interface, Port}
use Rattle.pisdf_model.specs.declared.fifo.Fifo.{Fifo}
use Rattle.pisdf_model.specs.declared.graph.Graph.{Graph}
use Rattle.pisdf_model.specs.declared.graph.Graphs.{Graphs}
use Rattle.pisdf_model.specs.declared.graph.Interface as interface
use Rattle.pisdf_model.specs.declared.names.ScopedName.{ScopedName}
use Rattle.pisdf_model.specs.declared.names.Scope.TheVariants as scope
use Rattle.unfold_rates.specs.Multiplied.{multiplied_at, multiplied_graph, multiplied_interface, unfolded_graphs}
use Rattle.unfold_rates.proofs.Lookups.{append_same, flattened, from_number_same, length-multiplied, look, mapped, names_stay, numbered}

module _ (times : ℕ) (graphs : Graphs) where
  abbrev gs : List Graph
  gs = graphs.graphs

  abbrev hs : List Graph
  hs = multiplied_at times graphs.top graphs.graphs

  abbrev mult : Graph → Graph
  mult g = multiplied_graph times g

  -- ---- names

  walk_stays : (n : ℕ) (g : Graph) → graph_walk n (mult g) ≡ graph_walk n g
  walk_stays n g =
      let Names : Type 0 = List ScopedName in
      ap (λ (names : List (List ℕ)). record { scope = scope.Graphs; name = g.name }
      ∷ (scoped (scope.Parts n) (map (λ p. p.name) g.params)
      ++ (scoped (scope.Parts n) names
      ++ (scoped (scope.Parts n) (interface_names (map (multiplied_interface times) g.outputs))
      ++ of_each (λ a actor. actor_walk n a actor) g.actors)))) (names_stay times g.inputs)
      ∙ ap (λ (names : List (List ℕ)). record { scope = scope.Graphs; name = g.name }
      ∷ (scoped (scope.Parts n) (map (λ p. p.name) g.params)
      ++ (scoped (scope.Parts n) (interface_names g.inputs)
      ++ (scoped (scope.Parts n) names
      ++ of_each (λ a actor. actor_walk n a actor) g.actors)))) (names_stay times g.outputs)

  pub names_same : names_of (unfolded_graphs graphs times) ≡ names_of graphs
  names_same = numbered times (λ n g. graph_walk n g) (λ n g. graph_walk n g) (λ n g. refl) walk_stays 0 graphs.top gs

  -- ---- ports

  inherited_same : (k : ℕ) → inherited_count (slice_get hs k) ≡ inherited_count (slice_get gs k)
  inherited_same k = look times inherited_count (λ g. refl) graphs.top k gs

  exports_same : (k : ℕ) → export_count (slice_get hs k) ≡ export_count (slice_get gs k)
  exports_same k = look times export_count (λ g. refl) graphs.top k gs

  fits_same : (fits : Body → Bool) (body : Body) → body_fits fits hs body ≡ body_fits fits gs body
  fits_same fits (Kernel kernel args ins outs) = refl
  fits_same fits (Config kernel args ins outs sets) = refl
  fits_same fits (Child k args) = ap (λ (n : ℕ). length args == n) (inherited_same k)
  fits_same fits (ConfigChild k args sets) =
      ap (λ (n : ℕ). (length args == n) && (length sets == export_count (slice_get hs k))) (inherited_same k)
      ∙ ap (λ (n : ℕ). (length args == inherited_count (slice_get gs k)) && (length sets == n)) (exports_same k)

  ports_same : (fits : Body → Bool) (is_top : Bool) (g : Graph) → graph_ports fits hs is_top g ≡ graph_ports fits gs is_top g
  ports_same fits is_top g =
      ap (λ (names : List (List ℕ)). names ++ of_each (λ i p. param_ports is_top (all_sets g.actors) i p) g.params)
      (from_number_same (λ a actor. actor_ports fits gs actor) (λ a actor. actor_ports fits hs actor) (λ n actor. ap (λ (b : Bool). unless b actor.name) (fits_same fits actor.body)) 0 g.actors)

  pub all_ports_same : (fits : Body → Bool) → ports_faults fits (unfolded_graphs graphs times) ≡ ports_faults fits graphs
  all_ports_same fits = numbered times (λ n g. graph_ports fits gs (n == graphs.top) g) (λ n g. graph_ports fits hs (n == graphs.top) g) (λ n g. ports_same fits (n == graphs.top) g) (λ n g. ports_same fits (n == graphs.top) g) 0 graphs.top gs

  -- ---- wires

  pub inputs_same : (body : Body) → input_names hs body ≡ input_names gs body
  inputs_same (Kernel kernel args ins outs) = refl
  inputs_same (Config kernel args ins outs sets) = refl
  inputs_same (Child k args) = look times (λ (o : Option Graph). interface_names (inputs_of o)) (λ g. names_stay times g.inputs) graphs.top k gs
  inputs_same (ConfigChild k args sets) = look times (λ (o : Option Graph). interface_names (inputs_of o)) (λ g. names_stay times g.inputs) graphs.top k gs

  pub outputs_same : (body : Body) → output_names hs body ≡ output_names gs body
  outputs_same (Kernel kernel args ins outs) = refl
  outputs_same (Config kernel args ins outs sets) = refl
  outputs_same (Child k args) = look times (λ (o : Option Graph). interface_names (outputs_of o)) (λ g. names_stay times g.outputs) graphs.top k gs
  outputs_same (ConfigChild k args sets) = look times (λ (o : Option Graph). interface_names (outputs_of o)) (λ g. names_stay times g.outputs) graphs.top k gs

  pub input_count_same : (body : Body) → input_count hs body ≡ input_count gs body
  input_count_same body = ap (λ (names : List (List ℕ)). length names) (inputs_same body)

  pub port_count_same : (body : Body) → port_count hs body ≡ port_count gs body
  port_count_same body =
      ap (λ (names : List (List ℕ)). length names + length (output_names hs body)) (inputs_same body) ∙ ap (λ (names : List (List ℕ)). length (input_names gs body) + length names) (outputs_same body)

  port_names_same : (actor : Actor) → actor_port_names hs actor ≡ actor_port_names gs actor
  port_names_same actor = append_same (input_names gs actor.body) (input_names hs actor.body) (output_names gs actor.body) (output_names hs actor.body) (inputs_same actor.body) (outputs_same actor.body)

  interfaces_same : (g : Graph) → names_of_interfaces (mult g) ≡ names_of_interfaces g
  interfaces_same g =
      append_same (interface_names g.inputs) (interface_names (map (multiplied_interface times) g.inputs)) (interface_names g.outputs) (interface_names (map (multiplied_interface times) g.outputs))
      (names_stay times g.inputs) (names_stay times g.outputs)

  inputs_long : (g : Graph) → length (mult g).inputs ≡ length g.inputs
  inputs_long g = length-map g.inputs (multiplied_interface times)

  text_at_same : (o : Option Actor) (p : ℕ) → text_at hs o p ≡ text_at gs o p
  text_at_same None p = refl
  text_at_same (Some actor) p = ap (λ (names : List (List ℕ)). port_text actor.name (text_or_none (slice_get names p))) (port_names_same actor)

  output_port_same : (o : Option Actor) (p : ℕ) → is_output_port hs o p ≡ is_output_port gs o p
  output_port_same None p = refl
  output_port_same (Some actor) p =
      ap (λ (n : ℕ). nat_le n p && nat_lt p (port_count hs actor.body)) (input_count_same actor.body) ∙ ap (λ (n : ℕ). nat_le (input_count gs actor.body) p && nat_lt p n) (port_count_same actor.body)

  input_port_same : (o : Option Actor) (p : ℕ) → is_input_port hs o p ≡ is_input_port gs o p
  input_port_same None p = refl
  input_port_same (Some actor) p = ap (λ (n : ℕ). nat_lt p n) (input_count_same actor.body)

  -- of a graph that has the same interfaces by name, and the same actors
  module _ (g h : Graph) (actors : h.actors ≡ g.actors) (names : names_of_interfaces h ≡ names_of_interfaces g) (long : length h.inputs ≡ length g.inputs) where
    text_same : (e : End) → end_text hs h e ≡ end_text gs g e
    text_same (Interface i) = ap (λ (names : List (List ℕ)). text_or_none (slice_get names i)) names
    text_same (Port a p) = ap (λ (actors : List Actor). text_at hs (slice_get actors a) p) actors ∙ text_at_same (slice_get g.actors a) p

    gives_same : (e : End) → gives_tokens hs h e ≡ gives_tokens gs g e
    gives_same (Interface i) = ap (λ (n : ℕ). nat_lt i n) long
    gives_same (Port a p) = ap (λ (actors : List Actor). is_output_port hs (slice_get actors a) p) actors ∙ output_port_same (slice_get g.actors a) p

    takes_same : (e : End) → takes_tokens hs h e ≡ takes_tokens gs g e
    takes_same (Interface i) = ap (λ (n : ℕ). nat_le n i && nat_lt i (length (names_of_interfaces h))) long ∙ ap (λ (names : List (List ℕ)). nat_le (length g.inputs) i && nat_lt i (length names)) names
    takes_same (Port a p) = ap (λ (actors : List Actor). is_input_port hs (slice_get actors a) p) actors ∙ input_port_same (slice_get g.actors a) p

    fifo_same : (f : Fifo) → fifo_wires hs h f ≡ fifo_wires gs g f
    fifo_same f =
        append_same (unless (gives_tokens gs g f.tail) (end_text gs g f.tail)) (unless (gives_tokens hs h f.tail) (end_text hs h f.tail)) (unless (takes_tokens gs g f.head) (end_text gs g f.head)) (unless (takes_tokens hs h f.head) (end_text hs h f.head))
        (ap (λ (b : Bool). unless b (end_text hs h f.tail)) (gives_same f.tail) ∙ ap (λ (t : List ℕ). unless (gives_tokens gs g f.tail) t) (text_same f.tail))
        (ap (λ (b : Bool). unless b (end_text hs h f.head)) (takes_same f.head) ∙ ap (λ (t : List ℕ). unless (takes_tokens gs g f.head) t) (text_same f.head))

    actor_same : (times' : ℕ → ℕ → ℕ) (a : ℕ) (actor : Actor) → actor_wires times' hs a actor ≡ actor_wires times' gs a actor
    actor_same times' a actor = ap (λ (names : List (List ℕ)). of_each (λ p name. port_wires times' a actor.name p name) names) (port_names_same actor)

    wires_same : h.fifos ≡ g.fifos → graph_wires hs h ≡ graph_wires gs g
    wires_same fifos =
        append_same (of_each (λ n f. fifo_wires gs g f) g.fifos) (of_each (λ n f. fifo_wires hs h f) h.fifos) _ _
        (ap (λ (fs : List Fifo). of_each (λ n f. fifo_wires hs h f) fs) fifos ∙ from_number_same (λ n f. fifo_wires gs g f) (λ n f. fifo_wires hs h f) (λ n f. fifo_same f) 0 g.fifos)
        (append_same (of_each (λ i name. interface_wires (times_of_interface (ends_of g.fifos)) i name) (names_of_interfaces g)) (of_each (λ i name. interface_wires (times_of_interface (ends_of h.fifos)) i name) (names_of_interfaces h)) _ _
        (ap (λ (fs : List Fifo). of_each (λ i name. interface_wires (times_of_interface (ends_of fs)) i name) (names_of_interfaces h)) fifos ∙ ap (λ (names : List (List ℕ)). of_each (λ i name. interface_wires (times_of_interface (ends_of g.fifos)) i name) names) names)
        (ap (λ (fs : List Fifo). of_each (λ a actor. actor_wires (times_of_port (ends_of fs)) hs a actor) h.actors) fifos
        ∙ ap (λ (actors : List Actor). of_each (λ a actor. actor_wires (times_of_port (ends_of g.fifos)) hs a actor) actors) actors
        ∙ from_number_same (λ a actor. actor_wires (times_of_port (ends_of g.fifos)) gs a actor) (λ a actor. actor_wires (times_of_port (ends_of g.fifos)) hs a actor) (λ a actor. actor_same (times_of_port (ends_of g.fifos)) a actor) 0 g.actors))

  pub all_wires_same : wire_faults (unfolded_graphs graphs times) ≡ wire_faults graphs
  all_wires_same = numbered times (λ n g. graph_wires gs g) (λ n g. graph_wires hs g) (λ n g. wires_same g g refl refl refl refl) (λ n g. wires_same g (mult g) refl (interfaces_same g) (inputs_long g) refl) 0 graphs.top gs

  -- ---- wires at interfaces

  at_input_stays : (g : Graph) (e : End) → is_at_input (mult g) e ≡ is_at_input g e
  at_input_stays g (Interface i) = ap (λ (n : ℕ). nat_lt i n) (inputs_long g)
  at_input_stays g (Port a p) = refl

  at_output_stays : (g : Graph) (e : End) → is_at_output (mult g) e ≡ is_at_output g e
  at_output_stays g (Interface i) = ap (λ (n : ℕ). nat_le n i) (inputs_long g)
  at_output_stays g (Port a p) = refl

  at_configuration_stays : (g : Graph) (e : End) → is_at_configuration (mult g) e ≡ is_at_configuration g e
  at_configuration_stays g (Interface i) = refl
  at_configuration_stays g (Port a p) = refl

  is_misplaced_stays : (g : Graph) (f : Fifo) → is_misplaced (mult g) f ≡ is_misplaced g f
  is_misplaced_stays g f = simp (at_input_stays g, at_output_stays g, at_configuration_stays g)

  fifo_stays : (g : Graph) (i : ℕ) (f : Fifo) → fifo_misplaced (mult g) i f ≡ fifo_misplaced g i f
  fifo_stays g i f = ap (λ (b : Bool). unless (not b) (record { graph = g.name; fifo = i })) (is_misplaced_stays g f)

  misplaced_same : (g : Graph) → graph_misplaced (mult g) ≡ graph_misplaced g
  misplaced_same g =
      from_number_same (λ i f. fifo_misplaced g i f) (λ i f. fifo_misplaced (mult g) i f)
      (λ i f. fifo_stays g i f) 0 g.fifos

  pub all_misplaced_same : interface_wire_faults (unfolded_graphs graphs times) ≡ interface_wire_faults graphs
  all_misplaced_same = numbered times (λ n g. graph_misplaced g) (λ n g. graph_misplaced g) (λ n g. refl) (λ n g. misplaced_same g) 0 graphs.top gs

  -- ---- parameters

  rates_stay : (xs : List interface.Interface) → flat_map (λ (i : interface.Interface). places_of i.rate) (map (multiplied_interface times) xs) ≡ flat_map (λ (i : interface.Interface). places_of i.rate) xs
  rates_stay [] = refl
  rates_stay (x ∷ xs) =
      append_same (places_of x.rate) (places_of x.rate ++ []) (flat_map (λ (i : interface.Interface). places_of i.rate) xs) (flat_map (λ (i : interface.Interface). places_of i.rate) (map (multiplied_interface times) xs))
      (append-nil (places_of x.rate)) (rates_stay xs)

  early_stays : (g : Graph) → early_places (mult g) ≡ early_places g
  early_stays g =
      append_same _ _ _ _ (rates_stay g.inputs)
      (append_same _ _ (flat_map (λ (a : Actor). config_places a.body) g.actors) (flat_map (λ (a : Actor). config_places a.body) g.actors) (rates_stay g.outputs) refl)

  late_stays : (g : Graph) (place : ℕ) → is_late (mult g) place ≡ is_late g place
  unfolding is_late
  late_stays g place = refl

  order_stays : (g : Graph) → order_faults (mult g) ≡ order_faults g
  order_stays g =
      ap (λ (late : ℕ → Bool). map (param_name g) (on_cycles (references g) ++ filter late (early_places (mult g)))) (fun_ext (late_stays g))
      ∙ ap (λ (places : List ℕ). map (param_name g) (on_cycles (references g) ++ filter (is_late g) places)) (early_stays g)

  pub all_orders_same : param_order_faults (unfolded_graphs graphs times) ≡ param_order_faults graphs
  all_orders_same = flattened times order_faults order_stays graphs.top gs

  -- ---- nesting

  pub children_same : child_lists (unfolded_graphs graphs times) ≡ child_lists graphs
  children_same = mapped times children (λ g. refl) graphs.top gs

  graph_names_same : (place : ℕ) → graph_name (unfolded_graphs graphs times) place ≡ graph_name graphs place
  graph_names_same place = ap (λ (names : List (List ℕ)). get_or names place []) (mapped times (λ (g : Graph). g.name) (λ g. refl) graphs.top gs)

  named_same : (f : List (List ℕ) → List ℕ) → map (graph_name (unfolded_graphs graphs times)) (f (child_lists (unfolded_graphs graphs times))) ≡ map (graph_name graphs) (f (child_lists graphs))
  named_same f =
      ap (λ (lists : List (List ℕ)). map (graph_name (unfolded_graphs graphs times)) (f lists)) children_same
      ∙ ap (λ (name : ℕ → List ℕ). map name (f (child_lists graphs))) (fun_ext graph_names_same)

  pub cycles_same : graph_cycle_faults (unfolded_graphs graphs times) ≡ graph_cycle_faults graphs
  cycles_same = named_same on_cycles

  pub depths_same : depth_faults (unfolded_graphs graphs times) ≡ depth_faults graphs
  depths_same = named_same (λ lists. nested_over lists nesting_limit)

  -- ---- counts

  states_same : (states states' : ℕ → List (List ℤ)) → states' ≡ states → (o : Option Graph) → graph_state states' o ≡ graph_state states o
  states_same states states' same o = ap (λ (s : ℕ → List (List ℤ)). graph_state s o) same

  initial_to_same : (n place : ℕ) → initial_to hs n place ≡ initial_to gs n place
  unfolding initial_to
  initial_to_same zero place = refl
  initial_to_same (suc n) place =
      states_same (initial_to gs n) (initial_to hs n) (fun_ext (initial_to_same n)) (slice_get hs place)
      ∙ look times (λ (o : Option Graph). graph_state (initial_to gs n) o) (λ g. refl) graphs.top place gs

  pub initial_same : (place : ℕ) → initial hs place ≡ initial gs place
  initial_same place = initial_to_same nesting_limit place

  any_same : (test : Graph → Bool) → ((g : Graph) → test (mult g) ≡ test g) → (place : ℕ) (xs : List Graph) → list_any test (multiplied_at times place xs) ≡ list_any test xs
  any_same test same place [] = refl
  any_same test same zero (x ∷ xs) = ap (λ (b : Bool). b || list_any test xs) (same x)
  any_same test same (suc place) (x ∷ xs) = ap (λ (b : Bool). test x || b) (any_same test same place xs)

  is_named_same : (n : ℕ) → is_named hs n ≡ is_named gs n
  is_named_same n = any_same (λ (g : Graph). list_any (λ child. child == n) (children g)) (λ g. refl) graphs.top gs

  large_same : (n : ℕ) → has_large_hold hs n ≡ has_large_hold gs n
  large_same n =
      ap (λ (b : Bool). b && nat_lt hold_limit (hold hs n)) (is_named_same n) ∙ ap (λ (state : List (List ℤ)). is_named gs n && nat_lt hold_limit (length (in_line state))) (initial_same n)

  counts_same : (n : ℕ) (g : Graph) → graph_counts hs n g ≡ graph_counts gs n g
  counts_same n g = ap (λ (b : Bool). excess_of (counts_of b g)) (large_same n)

  counts_stay : (large : Bool) (g : Graph) → counts_of large (mult g) ≡ counts_of large g
  counts_stay large g =
      ap (λ (n : ℕ). record (counts_of large (mult g)) { inputs = n }) (inputs_long g)
      ∙ ap (λ (n : ℕ). record (counts_of large g) { outputs = n }) (length-map g.outputs (multiplied_interface times))

  pub all_counts_same : count_faults (unfolded_graphs graphs times) ≡ count_faults graphs
  all_counts_same =
      append_same _ _ _ _ (ap (λ (n : ℕ). unless (nat_le n graphs_limit) counted.Graphs) (length-multiplied times graphs.top gs))
      (numbered times (graph_counts gs) (graph_counts hs) counts_same (λ n g. counts_same n (mult g) ∙ ap excess_of (counts_stay (has_large_hold gs n) g)) 0 graphs.top gs)

  -- ---- all

  pub faults_same : model_faults (unfolded_graphs graphs times) ≡ model_faults graphs
  faults_same =
      append_same _ _ _ _ (ap (λ (names : List ScopedName). with_number 4 (repeats names)) names_same)
      (append_same _ _ _ _ (ap (with_number 7) (all_ports_same (λ body. true)))
      (append_same _ _ _ _ (ap (with_number 8) all_wires_same)
      (append_same _ _ _ _ (ap (λ places. with_number 9 (graphs_at places)) all_misplaced_same)
      (append_same _ _ _ _ (ap (with_number 10) all_orders_same)
      (append_same _ _ _ _ (ap (with_number 11) cycles_same)
      (append_same _ _ _ _ (ap (with_number 12) depths_same)
      (ap (λ (counts : List Counted). with_number 13 (map word_of counts)) all_counts_same)))))))
