-- FIFOs that run the wrong way, and interfaces and ports that don't stand at one FIFO end.
use Rattle.std.specs.Prelude.{ℕ, ◌==◌, ◌&&◌, nat_lt, nat_le, Bool, false, List, [], ◌∷◌, ◌++◌, length, count_by, Option, Some, None, slice_get}
use Rattle.pisdf_model.specs.Details.{of_each, unless}
use Rattle.pisdf_model.specs.Parts.{interface_names, input_names, output_names, input_count, port_count}
use Rattle.pisdf_model.specs.declared.actor.Actor.{Actor}
use Rattle.pisdf_model.specs.declared.fifo.End.{End}
use Rattle.pisdf_model.specs.declared.fifo.End.TheVariants.{Interface, Port}
use Rattle.pisdf_model.specs.declared.fifo.Fifo.{Fifo}
use Rattle.pisdf_model.specs.declared.graph.Graph.{Graph}
use Rattle.pisdf_model.specs.declared.graph.Graphs.{Graphs}

-- a graph's interfaces, as ends count them
abbrev pub names_of_interfaces : Graph → List (List ℕ)
names_of_interfaces g = interface_names g.inputs ++ interface_names g.outputs

-- an actor's ports, as ends count them
abbrev pub actor_port_names : List Graph → Actor → List (List ℕ)
actor_port_names graphs actor = input_names graphs actor.body ++ output_names graphs actor.body

-- an end's text, as a file writes it

abbrev pub port_text : List ℕ → List ℕ → List ℕ
port_text actor port = actor ++ 46 ∷ port

abbrev pub text_or_none : Option (List ℕ) → List ℕ
text_or_none None = []
text_or_none (Some name) = name

abbrev pub text_at : List Graph → Option Actor → ℕ → List ℕ
text_at graphs None p = []
text_at graphs (Some actor) p = port_text actor.name (text_or_none (slice_get (actor_port_names graphs actor) p))

abbrev pub end_text : List Graph → Graph → End → List ℕ
end_text graphs g (Interface i) = text_or_none (slice_get (names_of_interfaces g) i)
end_text graphs g (Port a p) = text_at graphs (slice_get g.actors a) p

-- tokens come from input interfaces and output ports

abbrev pub is_output_port : List Graph → Option Actor → ℕ → Bool
is_output_port graphs None p = false
is_output_port graphs (Some actor) p = nat_le (input_count graphs actor.body) p && nat_lt p (port_count graphs actor.body)

abbrev pub gives_tokens : List Graph → Graph → End → Bool
gives_tokens graphs g (Interface i) = nat_lt i (length g.inputs)
gives_tokens graphs g (Port a p) = is_output_port graphs (slice_get g.actors a) p

-- and go to output interfaces and input ports

abbrev pub is_input_port : List Graph → Option Actor → ℕ → Bool
is_input_port graphs None p = false
is_input_port graphs (Some actor) p = nat_lt p (input_count graphs actor.body)

abbrev pub takes_tokens : List Graph → Graph → End → Bool
takes_tokens graphs g (Interface i) = nat_le (length g.inputs) i && nat_lt i (length (names_of_interfaces g))
takes_tokens graphs g (Port a p) = is_input_port graphs (slice_get g.actors a) p

abbrev pub fifo_wires : List Graph → Graph → Fifo → List (List ℕ)
fifo_wires graphs g f = unless (gives_tokens graphs g f.tail) (end_text graphs g f.tail) ++ unless (takes_tokens graphs g f.head) (end_text graphs g f.head)

-- all ends of FIFOs
abbrev pub ends_of : List Fifo → List End
ends_of fifos = of_each (λ n f. f.tail ∷ f.head ∷ []) fifos

abbrev pub is_interface : ℕ → End → Bool
is_interface i (Interface j) = j == i
is_interface i (Port b q) = false

abbrev pub is_port : ℕ → ℕ → End → Bool
is_port a p (Interface j) = false
is_port a p (Port b q) = (b == a) && (q == p)

-- at how many ends an interface stands
abbrev pub times_of_interface : List End → ℕ → ℕ
times_of_interface ends i = count_by (λ end. is_interface i end) ends

-- and a port
abbrev pub times_of_port : List End → ℕ → ℕ → ℕ
times_of_port ends a p = count_by (λ end. is_port a p end) ends

-- each interface stands at one end
abbrev pub interface_wires : (ℕ → ℕ) → ℕ → List ℕ → List (List ℕ)
interface_wires times i name = unless (times i == 1) name

-- and each port
abbrev pub port_wires : (ℕ → ℕ → ℕ) → ℕ → List ℕ → ℕ → List ℕ → List (List ℕ)
port_wires times a actor p name = unless (times a p == 1) (port_text actor name)

abbrev pub actor_wires : (ℕ → ℕ → ℕ) → List Graph → ℕ → Actor → List (List ℕ)
actor_wires times graphs a actor = of_each (λ p name. port_wires times a actor.name p name) (actor_port_names graphs actor)

-- the FIFOs, then the interfaces, then the ports actor by actor
abbrev pub graph_wires : List Graph → Graph → List (List ℕ)
graph_wires graphs g =
    of_each (λ n f. fifo_wires graphs g f) g.fifos
    ++ (of_each (λ i name. interface_wires (times_of_interface (ends_of g.fifos)) i name) (names_of_interfaces g)
    ++ of_each (λ a actor. actor_wires (times_of_port (ends_of g.fifos)) graphs a actor) g.actors)

abbrev pub wire_faults : Graphs → List (List ℕ)
wire_faults graphs = of_each (λ n g. graph_wires graphs.graphs g) graphs.graphs
