-- The level of a graph (Lee and Messerschmitt 1987), where the values of its parameters and what was known before its configuration actors fired are these; and where that fails.
use Rattle.std.specs.Prelude.{◌≡◌, ℕ, ◌-◌, ℤ, List, [], ◌∷◌, ◌++◌, length, map, slice_get, slice_index, Option, Some, None, if◌then◌else◌}
use Rattle.std.specs.List.{flat_map}
use Rattle.pisdf_model.specs.Details.{of_each}
use Rattle.pisdf_model.specs.InterfaceWires.{is_at_configuration}
use Rattle.pisdf_model.specs.Parts.{input_count}
use Rattle.pisdf_model.specs.declared.actor.Actor.{Actor}
use Rattle.pisdf_model.specs.declared.actor.Body.{Body}
use Rattle.pisdf_model.specs.declared.actor.Body.TheVariants.{Kernel, Config, Child, ConfigChild}
use Rattle.pisdf_model.specs.declared.fifo.End.{End}
use Rattle.pisdf_model.specs.declared.fifo.End.TheVariants.{Interface, Port}
use Rattle.pisdf_model.specs.declared.fifo.Fifo.{Fifo}
use Rattle.pisdf_model.specs.declared.graph.Graph.{Graph}
use Rattle.sdf_level.specs.View.{LevelView}
use Rattle.sdf_level.specs.declared.link.Link.{Link}
use Rattle.sdf_level.specs.declared.link.Tail.{Tail}
use Rattle.sdf_level.specs.declared.link.Tail.TheVariants as tail
use Rattle.sdf_level.specs.declared.link.Head.{Head}
use Rattle.sdf_level.specs.declared.link.Head.TheVariants as head
use Rattle.param_resolver.specs.EarlyCheck.{early_of, early_faults}
use Rattle.param_resolver.specs.EarlyView.{EarlyView}
use Rattle.param_resolver.specs.Numbering.{acting, acting_places, actor_number, has_state, is_kept, output_count, place_among, source_ends, source_inputs, state_size}
use Rattle.param_resolver.specs.Rates.{arg_faults, arg_values, port_faults, port_rates}
use Rattle.param_resolver.specs.Refusal.{Refusal, child}

-- ---- the rates of an actor's ports; those of a hierarchical actor are its child's

abbrev pub in_rates : List Graph → List ℤ → Body → List ℕ
in_rates graphs values (Kernel kernel args ins outs) = port_rates values ins
in_rates graphs values (Config kernel args ins outs sets) = []
in_rates graphs values (Child k args) = (early_of graphs k (arg_values values args)).inputs
in_rates graphs values (ConfigChild k args sets) = (early_of graphs k (arg_values values args)).inputs

abbrev pub out_rates : List Graph → List ℤ → Body → List ℕ
out_rates graphs values (Kernel kernel args ins outs) = port_rates values outs
out_rates graphs values (Config kernel args ins outs sets) = port_rates values outs
out_rates graphs values (Child k args) = (early_of graphs k (arg_values values args)).outputs
out_rates graphs values (ConfigChild k args sets) = (early_of graphs k (arg_values values args)).outputs

-- ---- sources and sinks

-- the rate of each source: the input interfaces that feed no configuration actor, then what the configuration actors give
abbrev pub sources_of : Graph → EarlyView → List ℕ
sources_of g early = map (λ i. slice_index early.inputs i) (source_inputs g) ++ flat_map (λ rates. rates) early.outs

-- ---- links

-- the port of an actor that fires in the level, its outputs numbered alone
abbrev pub output_port : List Graph → Graph → List ℤ → ℕ → ℕ → Option Actor → Tail
output_port graphs g values a p None = tail.Source 0
output_port graphs g values a p (Some actor) = tail.Port (actor_number g a) (p - input_count graphs actor.body) (slice_index (out_rates graphs values actor.body) (p - input_count graphs actor.body))

abbrev pub input_port : List Graph → Graph → List ℤ → ℕ → ℕ → Option Actor → Head
input_port graphs g values a p None = head.Sink 0
input_port graphs g values a p (Some actor) = head.Port (actor_number g a) p (slice_index (in_rates graphs values actor.body) p)

abbrev pub tail_of : List Graph → Graph → List ℤ → End → Tail
tail_of graphs g values (Interface i) = tail.Source (place_among (source_ends graphs g) (Interface i))
tail_of graphs g values (Port a p) =
    if is_at_configuration g (Port a p) then tail.Source (place_among (source_ends graphs g) (Port a p)) else output_port graphs g values a p (slice_get g.actors a)

abbrev pub head_of : List Graph → Graph → List ℤ → End → Head
head_of graphs g values (Interface i) = head.Sink (i - length g.inputs)
head_of graphs g values (Port a p) = input_port graphs g values a p (slice_get g.actors a)

abbrev pub link_of : List Graph → Graph → List ℤ → Fifo → Link
link_of graphs g values f = record { tail = tail_of graphs g values f.tail; head = head_of graphs g values f.head; delay = length f.delay }

abbrev pub fifo_links : List Graph → Graph → List ℤ → Fifo → List Link
fifo_links graphs g values f = if is_kept g f then link_of graphs g values f ∷ [] else []

-- a link from an actor to itself, which carries its child's state; its ports stand after the child's
abbrev pub state_link : List Graph → Graph → ℕ → Body → Link
state_link graphs g a body = record {
  tail = tail.Port (actor_number g a) (output_count graphs body) (state_size graphs body);
  head = head.Port (actor_number g a) (input_count graphs body) (state_size graphs body);
  delay = state_size graphs body;
}

abbrev pub state_links : List Graph → Graph → ℕ → Actor → List Link
state_links graphs g a actor = if has_state graphs actor then state_link graphs g a actor.body ∷ [] else []

-- the FIFOs that don't lead into configuration actors, then the states
abbrev pub links_of : List Graph → Graph → List ℤ → List Link
links_of graphs g values = of_each (λ i f. fifo_links graphs g values f) g.fifos ++ of_each (λ a actor. state_links graphs g a actor) g.actors

-- ---- the level

abbrev pub level_at : List Graph → Graph → EarlyView → List ℤ → LevelView
level_at graphs g early values = record { actors = length (acting g); sources = sources_of g early; sinks = early.outputs; links = links_of graphs g values }

-- the arguments of an actor that fires in the level
abbrev pub acting_args : List ℤ → Body → List (List ℤ)
acting_args values (Kernel kernel args ins outs) = arg_values values args ∷ []
acting_args values (Config kernel args ins outs sets) = []
acting_args values (Child k args) = arg_values values args ∷ []
acting_args values (ConfigChild k args sets) = []

abbrev pub level_args : Graph → List ℤ → List (List ℤ)
level_args g values = flat_map (λ (actor : Actor). acting_args values actor.body) g.actors

-- the rates of its outputs, without that of its state
abbrev pub acting_outs : List Graph → List ℤ → Body → List (List ℕ)
acting_outs graphs values (Kernel kernel args ins outs) = port_rates values outs ∷ []
acting_outs graphs values (Config kernel args ins outs sets) = []
acting_outs graphs values (Child k args) = (early_of graphs k (arg_values values args)).outputs ∷ []
acting_outs graphs values (ConfigChild k args sets) = []

abbrev pub level_outs : List Graph → Graph → List ℤ → List (List ℕ)
level_outs graphs g values = flat_map (λ (actor : Actor). acting_outs graphs values actor.body) g.actors

-- what is known of the graph that it names, if it names one
abbrev pub acting_children : List Graph → List ℤ → Body → List (Option EarlyView)
acting_children graphs values (Kernel kernel args ins outs) = None ∷ []
acting_children graphs values (Config kernel args ins outs sets) = []
acting_children graphs values (Child k args) = Some (early_of graphs k (arg_values values args)) ∷ []
acting_children graphs values (ConfigChild k args sets) = []

abbrev pub level_children : List Graph → Graph → List ℤ → List (Option EarlyView)
level_children graphs g values = flat_map (λ (actor : Actor). acting_children graphs values actor.body) g.actors

-- ---- the same by actor

abbrev pub args_of : List ℤ → Body → List ℤ
args_of values (Kernel kernel args ins outs) = arg_values values args
args_of values (Config kernel args ins outs sets) = arg_values values args
args_of values (Child k args) = arg_values values args
args_of values (ConfigChild k args sets) = arg_values values args

abbrev pub child_of : List Graph → List ℤ → Body → Option EarlyView
child_of graphs values (Kernel kernel args ins outs) = None
child_of graphs values (Config kernel args ins outs sets) = None
child_of graphs values (Child k args) = Some (early_of graphs k (arg_values values args))
child_of graphs values (ConfigChild k args sets) = Some (early_of graphs k (arg_values values args))

-- what the lists have at this number is that of this actor
pub record AreOfActor (graphs : List Graph) (g : Graph) (values : List ℤ) (b : ℕ) (actor : Actor) : Type 0 where
  pub place : slice_get g.actors (slice_index (acting_places g) b) ≡ Some actor
  pub args : slice_get (level_args g values) b ≡ Some (args_of values actor.body)
  pub outs : slice_get (level_outs graphs g values) b ≡ Some (out_rates graphs values actor.body)
  pub child : slice_get (level_children graphs g values) b ≡ Some (child_of graphs values actor.body)

-- and they have one entry for each actor of the level
pub record AreOneEach (graphs : List Graph) (g : Graph) (values : List ℤ) : Type 0 where
  pub places : length (acting_places g) ≡ length (acting g)
  pub args : length (level_args g values) ≡ length (acting g)
  pub outs : length (level_outs graphs g values) ≡ length (acting g)
  pub children : length (level_children graphs g values) ≡ length (acting g)

-- the early check of the graph that the actor names has no fault
abbrev pub IsChildSound : List Graph → List ℤ → Body → Type 0
IsChildSound graphs values (Kernel kernel args ins outs) = Unit {0}
IsChildSound graphs values (Config kernel args ins outs sets) = Unit {0}
IsChildSound graphs values (Child k args) = early_faults graphs k (arg_values values args) ≡ []
IsChildSound graphs values (ConfigChild k args sets) = Unit {0}

-- ---- its faults

-- a kernel actor's arguments, then its input rates, then its output rates; a hierarchical actor's arguments, then its child's early check
abbrev pub acting_faults : List Graph → List ℤ → ℕ → List ℕ → Body → List Refusal
acting_faults graphs values a actor (Kernel kernel args ins outs) = arg_faults values actor args ++ (port_faults values actor ins ++ port_faults values actor outs)
acting_faults graphs values a actor (Config kernel args ins outs sets) = []
acting_faults graphs values a actor (Child k args) = arg_faults values actor args ++ map (child a) (early_faults graphs k (arg_values values args))
acting_faults graphs values a actor (ConfigChild k args sets) = []

abbrev pub level_faults : List Graph → Graph → List ℤ → List Refusal
level_faults graphs g values = of_each (λ a (actor : Actor). acting_faults graphs values a actor.name actor.body) g.actors
