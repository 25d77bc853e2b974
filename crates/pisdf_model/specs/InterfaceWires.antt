-- FIFOs at interfaces and at configuration actors that may not stand there.
use Rattle.std.specs.Prelude.{ℕ, ◌&&◌, ◌||◌, not, nat_lt, nat_le, Bool, true, false, List, length, Option, Some, None, slice_get}
use Rattle.pisdf_model.specs.Details.{of_each, unless}
use Rattle.pisdf_model.specs.declared.actor.Body.{Body}
use Rattle.pisdf_model.specs.declared.actor.Body.TheVariants.{Kernel, Config, Child, ConfigChild}
use Rattle.pisdf_model.specs.declared.actor.Actor.{Actor}
use Rattle.pisdf_model.specs.declared.fifo.End.{End}
use Rattle.pisdf_model.specs.declared.fifo.End.TheVariants.{Interface, Port}
use Rattle.pisdf_model.specs.declared.fifo.Fifo.{Fifo}
use Rattle.pisdf_model.specs.declared.graph.Graph.{Graph}
use Rattle.pisdf_model.specs.declared.graph.Graphs.{Graphs}
use Rattle.pisdf_model.specs.declared.interface_wires.FifoPlace.{FifoPlace}

abbrev pub is_configuration : Body → Bool
is_configuration (Kernel kernel args ins outs) = false
is_configuration (Config kernel args ins outs sets) = true
is_configuration (Child k args) = false
is_configuration (ConfigChild k args sets) = true

abbrev pub is_configuration_actor : Option Actor → Bool
is_configuration_actor None = false
is_configuration_actor (Some actor) = is_configuration actor.body

-- the end is a port of a configuration actor
abbrev pub is_at_configuration : Graph → End → Bool
is_at_configuration g (Interface i) = false
is_at_configuration g (Port a p) = is_configuration_actor (slice_get g.actors a)

abbrev pub is_at_interface : End → Bool
is_at_interface (Interface i) = true
is_at_interface (Port a p) = false

abbrev pub is_at_input : Graph → End → Bool
is_at_input g (Interface i) = nat_lt i (length g.inputs)
is_at_input g (Port a p) = false

abbrev pub is_at_output : Graph → End → Bool
is_at_output g (Interface i) = nat_le (length g.inputs) i
is_at_output g (Port a p) = false

abbrev pub has_delay : Fifo → Bool
has_delay f = nat_lt 0 (length f.delay)

-- from interface to interface; with a delay at an interface; into a configuration actor from other than an input; out
-- of a configuration actor with a delay or to an output
abbrev pub is_misplaced : Graph → Fifo → Bool
is_misplaced g f =
    (is_at_interface f.tail && is_at_interface f.head)
    || (has_delay f && (is_at_interface f.tail || is_at_interface f.head))
    || (is_at_configuration g f.head && not (is_at_input g f.tail))
    || (is_at_configuration g f.tail && (has_delay f || is_at_output g f.head))

abbrev pub fifo_misplaced : Graph → ℕ → Fifo → List FifoPlace
fifo_misplaced g i f = unless (not (is_misplaced g f)) (record { graph = g.name; fifo = i })

abbrev pub graph_misplaced : Graph → List FifoPlace
graph_misplaced g = of_each (λ i f. fifo_misplaced g i f) g.fifos

-- FIFO by FIFO, graph by graph
abbrev pub interface_wire_faults : Graphs → List FifoPlace
interface_wire_faults graphs = of_each (λ n g. graph_misplaced g) graphs.graphs
