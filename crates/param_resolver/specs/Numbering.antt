-- How the parts of a graph are numbered in its level: its actors without the configuration actors, its sources, its ports, and the FIFOs and actors that its links come from.
use Rattle.std.specs.Prelude.{ℕ, ◌+◌, not, nat_lt, ◌&&◌, Bool, List, [], ◌∷◌, ◌++◌, length, map, take, count_by, if◌then◌else◌}
use Rattle.std.specs.List.{filter, list_any, range_with_len}
use Rattle.pisdf_model.specs.Details.{of_each}
use Rattle.pisdf_model.specs.Hold.{hold}
use Rattle.pisdf_model.specs.InterfaceWires.{is_at_configuration, is_configuration}
use Rattle.pisdf_model.specs.Parts.{input_count, output_names}
use Rattle.pisdf_model.specs.Wires.{is_interface, is_port}
use Rattle.pisdf_model.specs.declared.actor.Actor.{Actor}
use Rattle.pisdf_model.specs.declared.actor.Body.{Body}
use Rattle.pisdf_model.specs.declared.actor.Body.TheVariants.{Kernel, Config, Child, ConfigChild}
use Rattle.pisdf_model.specs.declared.fifo.End.{End}
use Rattle.pisdf_model.specs.declared.fifo.End.TheVariants.{Interface, Port}
use Rattle.pisdf_model.specs.declared.fifo.Fifo.{Fifo}
use Rattle.pisdf_model.specs.declared.graph.Graph.{Graph}
use Rattle.param_resolver.specs.declared.origin.Origin.{Origin}
use Rattle.param_resolver.specs.declared.origin.Origin.TheVariants as origin

-- ---- actors

-- an actor fires in the level: it is no configuration actor
abbrev pub fires : Actor → Bool
fires actor = not (is_configuration actor.body)

abbrev pub acting : Graph → List Actor
acting g = filter fires g.actors

-- the number of an actor in the level: of those before it, how many fire there
abbrev pub actor_number : Graph → ℕ → ℕ
actor_number g a = count_by fires (take a g.actors)

-- the place of each actor of the level among all actors
abbrev pub acting_places : Graph → List ℕ
acting_places g = of_each (λ a actor. if fires actor then a ∷ [] else []) g.actors

-- ---- sources

-- the input interface feeds a configuration actor
abbrev pub feeds_configuration : Graph → ℕ → Bool
feeds_configuration g i = list_any (λ (f : Fifo). is_interface i f.tail && is_at_configuration g f.head) g.fifos

-- the input interfaces that feed no configuration actor
abbrev pub source_inputs : Graph → List ℕ
source_inputs g = filter (λ i. not (feeds_configuration g i)) (range_with_len 0 (length g.inputs))

abbrev pub output_count : List Graph → Body → ℕ
output_count graphs body = length (output_names graphs body)

-- the output ports of an actor, as ends
abbrev pub output_ends : List Graph → ℕ → Body → List End
output_ends graphs a body = map (λ p. Port a p) (range_with_len (input_count graphs body) (output_count graphs body))

abbrev pub config_ends : List Graph → ℕ → Actor → List End
config_ends graphs a actor = if is_configuration actor.body then output_ends graphs a actor.body else []

-- where the tokens of each source come from: the input interfaces that feed no configuration actor, then the outputs of the configuration actors
abbrev pub source_ends : List Graph → Graph → List End
source_ends graphs g = map (λ i. Interface i) (source_inputs g) ++ of_each (λ a actor. config_ends graphs a actor) g.actors

abbrev pub same_end : End → End → Bool
same_end (Interface i) end = is_interface i end
same_end (Port a p) end = is_port a p end

-- the first place of an end in a list, or the list's length where it isn't there
abbrev pub place_among : List End → End → ℕ
place_among [] end = 0
place_among (e ∷ ends) end = if same_end e end then 0 else place_among ends end + 1

-- ---- links

-- the FIFO becomes a link: it doesn't lead into a configuration actor
abbrev pub is_kept : Graph → Fifo → Bool
is_kept g f = not (is_at_configuration g f.head)

-- how many tokens go on from one firing of an actor of the level to the next
abbrev pub state_size : List Graph → Body → ℕ
state_size graphs (Kernel kernel args ins outs) = 0
state_size graphs (Config kernel args ins outs sets) = 0
state_size graphs (Child k args) = hold graphs k
state_size graphs (ConfigChild k args sets) = 0

abbrev pub has_state : List Graph → Actor → Bool
has_state graphs actor = nat_lt 0 (state_size graphs actor.body)

-- how many inputs an actor of the level has there: one more than in the graph, if its state goes on
abbrev pub level_inputs : List Graph → Actor → ℕ
level_inputs graphs actor = input_count graphs actor.body + (if has_state graphs actor then 1 else 0)

-- what each link comes from: the FIFOs that become links, then the actors that have a state, each in file order
abbrev pub link_origins : List Graph → Graph → List Origin
link_origins graphs g =
    of_each (λ i f. if is_kept g f then origin.Fifo i ∷ [] else []) g.fifos
    ++ of_each (λ a actor. if has_state graphs actor then origin.State a ∷ [] else []) g.actors
