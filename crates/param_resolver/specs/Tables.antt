-- What a level is made from: the numbers that parts of a graph have in it, and the rates and states of its actors.
use Rattle.std.specs.Prelude.{◌≡◌, ℕ, ◌+◌, ◌≤◌, ◌<◌, ◌^◌, not, Bool, true, false, ℤ, List, [], ◌∷◌, length, map, take, slice_index, count_by, sum_by, All, if◌then◌else◌}
use Rattle.std.specs.List.{AllByRecursion, flat_map, range_with_len}
use Rattle.pisdf_model.specs.Count.{delay_limit}
use Rattle.pisdf_model.specs.Hold.{hold_limit}
use Rattle.pisdf_model.specs.InterfaceWires.{is_at_configuration, is_configuration, is_misplaced}
use Rattle.pisdf_model.specs.Parts.{input_count}
use Rattle.pisdf_model.specs.Wires.{gives_tokens, is_interface, takes_tokens}
use Rattle.pisdf_model.specs.declared.actor.Actor.{Actor}
use Rattle.pisdf_model.specs.declared.actor.Body.{Body}
use Rattle.pisdf_model.specs.declared.actor.Body.TheVariants.{Kernel, Config, Child, ConfigChild}
use Rattle.pisdf_model.specs.declared.fifo.Fifo.{Fifo}
use Rattle.pisdf_model.specs.declared.graph.Graph.{Graph}
use Rattle.param_resolver.specs.EarlyCheck.{early_of}
use Rattle.param_resolver.specs.Numbering.{actor_number, feeds_configuration, has_state, is_kept, output_count, source_ends, source_inputs, state_size}
use Rattle.param_resolver.specs.Rates.{arg_values, port_rates}
use Rattle.param_resolver.specs.Resolvable.{IsBodyResolvable}
use Rattle.param_resolver.specs.declared.origin.Origin.{Origin}
use Rattle.param_resolver.specs.declared.origin.Origin.TheVariants as origin

-- ---- numbers

-- the number of each actor, if it fires in the level
abbrev pub actor_numbers : Graph → List ℕ
actor_numbers g = map (λ a. actor_number g a) (range_with_len 0 (length g.actors))

-- which inputs feed configuration actors
abbrev pub fed_inputs : Graph → List Bool
fed_inputs g = map (λ i. feeds_configuration g i) (range_with_len 0 (length g.inputs))

-- the number of an input as a source, if it feeds no configuration actor
abbrev pub input_number : Graph → ℕ → ℕ
input_number g i = count_by (λ j. not (feeds_configuration g j)) (range_with_len 0 i)

abbrev pub input_numbers : Graph → List ℕ
input_numbers g = map (λ i. input_number g i) (range_with_len 0 (length g.inputs))

-- how many sources are outputs of the actor
abbrev pub config_outputs : List Graph → Actor → ℕ
config_outputs graphs actor = if is_configuration actor.body then output_count graphs actor.body else 0

-- the number of an actor's first output as a source, if it is a configuration actor
abbrev pub output_number : List Graph → Graph → ℕ → ℕ
output_number graphs g a = length (source_inputs g) + sum_by (λ (x : Actor). config_outputs graphs x) (take a g.actors)

abbrev pub output_numbers : List Graph → Graph → List ℕ
output_numbers graphs g = map (λ a. output_number graphs g a) (range_with_len 0 (length g.actors))

-- ---- FIFOs

-- what well-formed graphs make sure of the FIFO
pub record IsSound (graphs : List Graph) (g : Graph) (f : Fifo) : Type 0 where
  pub gives : gives_tokens graphs g f.tail ≡ true
  pub takes : takes_tokens graphs g f.head ≡ true
  pub is_placed : is_misplaced g f ≡ false
  -- an input from which it comes feeds a configuration actor exactly where it leads into one
  pub fed : (i : ℕ) → is_interface i f.tail ≡ true → feeds_configuration g i ≡ is_at_configuration g f.head
  pub short : length f.delay ≤ delay_limit

-- what the link of a FIFO comes from, if it becomes one
abbrev pub fifo_origins : Graph → ℕ → Fifo → List Origin
fifo_origins g i f = if is_kept g f then origin.Fifo i ∷ [] else []

-- and that of a state, if there is one
abbrev pub state_origins : List Graph → ℕ → Actor → List Origin
state_origins graphs a actor = if has_state graphs actor then origin.State a ∷ [] else []

-- ---- actors

abbrev pub is_child : Body → Bool
is_child (Kernel kernel args ins outs) = false
is_child (Config kernel args ins outs sets) = false
is_child (Child k args) = true
is_child (ConfigChild k args sets) = false

-- the rates of the inputs of an actor that fires in the level, without that of its state
abbrev pub acting_ins : List Graph → List ℤ → Body → List (List ℕ)
acting_ins graphs values (Kernel kernel args ins outs) = port_rates values ins ∷ []
acting_ins graphs values (Config kernel args ins outs sets) = []
acting_ins graphs values (Child k args) = (early_of graphs k (arg_values values args)).inputs ∷ []
acting_ins graphs values (ConfigChild k args sets) = []

abbrev pub level_ins : List Graph → Graph → List ℤ → List (List ℕ)
level_ins graphs g values = flat_map (λ (actor : Actor). acting_ins graphs values actor.body) g.actors

-- its place, if it fires there
abbrev pub acting_place : ℕ → Body → List ℕ
acting_place a body = if not (is_configuration body) then a ∷ [] else []

-- how many tokens go on, where this many do in each graph
abbrev pub held_by : List ℕ → Body → ℕ
held_by holds (Kernel kernel args ins outs) = 0
held_by holds (Config kernel args ins outs sets) = 0
held_by holds (Child k args) = slice_index holds k
held_by holds (ConfigChild k args sets) = 0

-- so it is of these actors
abbrev pub AreHeld : List Graph → List ℕ → List Actor → Type 0
AreHeld graphs holds actors = All (λ (a : Actor). held_by holds a.body ≡ state_size graphs a.body) actors

-- the actor's ports are numbered by 32 bits, if it has a state, and that isn't too large
pub record IsStateFew (graphs : List Graph) (actor : Actor) : Type 0 where
  pub within : state_size graphs actor.body ≤ hold_limit
  pub ins : has_state graphs actor ≡ true → input_count graphs actor.body < 2 ^ 32
  pub outs : has_state graphs actor ≡ true → output_count graphs actor.body < 2 ^ 32

-- ---- all of them

-- what is asked of a graph whose links are made
pub record IsLinkable (graphs : List Graph) (g : Graph) : Type 0 where
  pub few_fifos : length g.fifos < 2 ^ 32
  pub few_actors : length g.actors < 2 ^ 32
  pub few_inputs : length g.inputs < 2 ^ 32
  pub few_sources : length (source_ends graphs g) < 2 ^ 32
  pub fifos : AllByRecursion (IsSound graphs g) g.fifos
  pub bodies : All (λ (a : Actor). IsBodyResolvable (length graphs) (length g.params) a.body) g.actors
  pub states : All (IsStateFew graphs) g.actors
