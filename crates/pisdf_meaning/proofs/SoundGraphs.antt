-- What well-formed graphs make sure of for the sizes of what their firings give.
use Rattle.std.proofs.Common.{◌≡◌, ℕ, suc, ◌+◌, Bool, true, false, not, List, [], ◌∷◌, ◌++◌, slice_get, Some, refl}
use Rattle.std.specs.List.{AllByRecursion}
use Rattle.std.proofs.lemmas.Option.{slice_get_within}
use Rattle.kernel_gate.specs.Signed.{Counts}
use Rattle.pisdf_model.specs.Details.{of_each, unless}
use Rattle.pisdf_model.specs.InterfaceWires.{fifo_misplaced, graph_misplaced, interface_wire_faults, is_misplaced}
use Rattle.pisdf_model.specs.WellFormed.{WellFormed, graphs_at}
use Rattle.pisdf_model.specs.Wires.{actor_wires, ends_of, end_text, fifo_wires, gives_tokens, graph_wires, interface_wires, names_of_interfaces, takes_tokens, times_of_interface, times_of_port, wire_faults}
use Rattle.pisdf_model.specs.declared.actor.Actor.{Actor}
use Rattle.pisdf_model.specs.declared.fifo.Fifo.{Fifo}
use Rattle.pisdf_model.specs.declared.graph.Graph.{Graph}
use Rattle.pisdf_model.specs.declared.graph.Graphs.{Graphs}
use Rattle.pisdf_model.specs.declared.interface_wires.FifoPlace.{FifoPlace}
use Rattle.pisdf_model.proofs.InitialStates.{flat_where_well_formed, initial_state}
use Rattle.pisdf_model.proofs.Lists.{left_none, right_none, unmapped}
use Rattle.pisdf_model.proofs.Numbers.{faults_4, faults_7, faults_8, faults_9, from_7, from_8, from_9, from_10}
use Rattle.kernel_gate.specs.Laws.{GiveLengths}
use Rattle.pisdf_meaning.specs.Sizes.{IsWired, KeepsSizes, MakeLevels}
use Rattle.pisdf_meaning.specs.Sound.{AllFit}
use Rattle.pisdf_meaning.proofs.KeptSizes.{Levelled, none_each, sizes_kept}

unless_none : {D : Type 0} (test : Bool) (d : D) → unless test d ≡ [] → test ≡ true
unless_none true d none = refl
unless_none false d none = absurd (cc)

not_true : (test : Bool) → not test ≡ true → test ≡ false
not_true true is = absurd (cc)
not_true false is = refl

module _ (graphs : Graphs) (well : WellFormed graphs) where
  after_7 : from_8 graphs ≡ []
  after_7 = right_none (faults_7 graphs) (from_8 graphs) (right_none (faults_4 graphs) (from_7 graphs) well)

  no_wire : wire_faults graphs ≡ []
  no_wire = unmapped (λ name. (8, name)) (wire_faults graphs) (left_none (faults_8 graphs) (from_9 graphs) after_7)

  no_place : interface_wire_faults graphs ≡ []
  no_place =
      unmapped (λ (place : FifoPlace). place.graph) (interface_wire_faults graphs)
      (unmapped (λ name. (9, name)) (graphs_at (interface_wire_faults graphs)) (left_none (faults_9 graphs) (from_10 graphs) (right_none (faults_8 graphs) (from_9 graphs) after_7)))

  module _ (place : ℕ) (g : Graph) (here : slice_get graphs.graphs place ≡ Some g) where
    wires : graph_wires graphs.graphs g ≡ []
    wires = none_each (λ n (x : Graph). graph_wires graphs.graphs x) 0 graphs.graphs no_wire place g here

    places : graph_misplaced g ≡ []
    places = none_each (λ n (x : Graph). graph_misplaced x) 0 graphs.graphs no_place place g here

    ends : of_each (λ n (f : Fifo). fifo_wires graphs.graphs g f) g.fifos ≡ []
    ends =
        left_none (of_each (λ n (f : Fifo). fifo_wires graphs.graphs g f) g.fifos)
        (of_each (λ i name. interface_wires (times_of_interface (ends_of g.fifos)) i name) (names_of_interfaces g) ++ of_each (λ a (actor : Actor). actor_wires (times_of_port (ends_of g.fifos)) graphs.graphs a actor) g.actors) wires

    one_wired : (i : ℕ) (f : Fifo) → slice_get g.fifos i ≡ Some f → IsWired graphs.graphs g f
    one_wired i f is =
        let both : fifo_wires graphs.graphs g f ≡ [] = none_each (λ n (x : Fifo). fifo_wires graphs.graphs g x) 0 g.fifos ends i f is in
        let placed : fifo_misplaced g (0 + i) f ≡ [] = none_each (λ n (x : Fifo). fifo_misplaced g n x) 0 g.fifos places i f is in
        record {
          gives = unless_none (gives_tokens graphs.graphs g f.tail) (end_text graphs.graphs g f.tail) (left_none (unless (gives_tokens graphs.graphs g f.tail) (end_text graphs.graphs g f.tail)) (unless (takes_tokens graphs.graphs g f.head) (end_text graphs.graphs g f.head)) both);
          takes = unless_none (takes_tokens graphs.graphs g f.head) (end_text graphs.graphs g f.head) (right_none (unless (gives_tokens graphs.graphs g f.tail) (end_text graphs.graphs g f.tail)) (unless (takes_tokens graphs.graphs g f.head) (end_text graphs.graphs g f.head)) both);
          is_placed = not_true (is_misplaced g f) (unless_none (not (is_misplaced g f)) (record { graph = g.name; fifo = 0 + i }) placed);
        }

    each_wired : (fifos : List Fifo) → ((i : ℕ) (f : Fifo) → slice_get fifos i ≡ Some f → IsWired graphs.graphs g f) → AllByRecursion (IsWired graphs.graphs g) fifos
    each_wired [] each = tt
    each_wired (f ∷ fifos) each = (each 0 f refl, each_wired fifos (λ i x is. each (suc i) x is))

    pub levelled : MakeLevels graphs.graphs → Levelled graphs.graphs place g
    levelled makes = record {
      wired = each_wired g.fifos one_wired;
      begins = initial_state graphs (flat_where_well_formed graphs well) place g here (slice_get_within graphs.graphs place g here);
      makes = makes place g here;
    }

  pub well_kept : (signatures : List Counts) → AllFit signatures graphs.graphs → GiveLengths signatures → MakeLevels graphs.graphs → KeepsSizes graphs.graphs
  well_kept signatures fit give makes = sizes_kept signatures graphs.graphs fit give (λ place g here. levelled place g here makes)
